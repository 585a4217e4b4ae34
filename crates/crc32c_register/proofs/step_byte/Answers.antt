-- `crc32c_register::step_byte` meets its contract: a byte's steps are those of its two halves.
-- Assumes nothing.
use Rattle.crc32c_register.proofs.Steps.{by_halves}
use Rattle.crc32c_register.proofs.step_byte.Goals as goal

pub returns : goal.returns
returns c = by_halves _ _ c.step_half.ensures c.step_half-2.ensures
