-- `crc32c_register::step_half` meets its contract: the tables' rule for a digit of four bits, with no step left for
-- the others. Assumes nothing.
use mathlib.Core.Path.{refl}
use Rattle.crc32c_register.specs.Register.{step_bits}
use Rattle.crc32c_register.proofs.Steps.{by_digit}
use Rattle.crc32c_register.proofs.step_half.Goals as goal

pub returns : goal.returns
unfolding step_bits
returns c = by_digit 4 0 c.args.register c.look.ensures refl
