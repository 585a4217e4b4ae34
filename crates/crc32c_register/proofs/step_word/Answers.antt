-- `crc32c_register::step_word` meets its contract: the tables' rule, once for each half byte; the highest one is
-- all that is left. Assumes nothing.
use Rattle.std.proofs.Common.{arith, ap, ◌∙◌}
use Rattle.crc32c_register.specs.Register.{step_bits}
use Rattle.crc32c_register.proofs.Xor.{xor_assoc}
use Rattle.crc32c_register.proofs.Steps.{by_digit, by_digit_at}
use Rattle.crc32c_register.proofs.step_word.Goals as goal

pub returns : goal.returns
returns c =
    let x = c.args.register in
    simp xor_assoc
    (by_digit 4 28 x c.look.ensures
    (by_digit_at 4 24 4 x c.look-2.ensures
    (by_digit_at 4 20 8 x c.look-3.ensures
    (by_digit_at 4 16 12 x c.look-4.ensures
    (by_digit_at 4 12 16 x c.look-5.ensures
    (by_digit_at 4 8 20 x c.look-6.ensures
    (by_digit_at 4 4 24 x c.look-7.ensures
    (c.look-8.ensures ∙ ap (step_bits 4) (omega arith)))))))))
