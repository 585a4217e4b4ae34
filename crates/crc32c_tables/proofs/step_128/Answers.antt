-- `crc32c_tables::step_128` meets its contract: the tables' rule, once for each byte; the highest byte is all that
-- is left. Assumes nothing.
use Rattle.std.proofs.Common.{arith, ap, ◌∙◌}
use Rattle.crc32c_register.specs.Register.{step_bits}
use Rattle.crc32c_register.proofs.Xor.{xor_assoc}
use Rattle.crc32c_register.proofs.Steps.{by_digit, by_digit_at}
use Rattle.crc32c_tables.proofs.step_128.Goals as goal

pub returns : goal.returns
returns c =
    let x = c.args.register in
    simp xor_assoc
    (by_digit 8 120 x c.look.ensures
    (by_digit_at 8 112 8 x c.look-2.ensures
    (by_digit_at 8 104 16 x c.look-3.ensures
    (c.look-4.ensures ∙ ap (step_bits 104) (omega arith)))))
