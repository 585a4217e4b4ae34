use Rattle.std.proofs.Common.{◌≡◌}
use Rattle.crc32c_register.specs.Register.{step_bits}
use Rattle.crc32c_register.proofs.step_bits.Given as goal

abbrev pub invariant-loop : goal.invariant-loop
invariant-loop l = l.r ≡ step_bits l.counter l.register
