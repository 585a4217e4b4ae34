use mathlib.Core.Path.{refl}
use Rattle.crc32c_register.specs.Register.{step_bit}
use Rattle.crc32c_register.proofs.step_bit.Goals as goal

-- src/lib.rt:5:1
pub returns : goal.returns
unfolding step_bit
returns c = refl
