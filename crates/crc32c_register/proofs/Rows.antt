-- A table whose test passes has each of its digits so many steps on. Assumes nothing.
use Rattle.std.proofs.Common.{◌≡◌, ℕ, zero, suc, ◌+◌, ◌<◌, List, [], ◌∷◌, length, get_or, IsTrue, refl, ap, ◌∙◌, arith}
use Rattle.std.proofs.lemmas.Bool.{eqb-true, and_parts}
use Rattle.crc32c_register.specs.Register.{step_bit, step_bits}
use Rattle.crc32c_register.specs.Rows.{stepped, rows_right}

stepped_is : (n r : ℕ) → stepped n r ≡ step_bits n r
unfolding step_bit step_bits
stepped_is zero r = refl
stepped_is (suc n) r = stepped_is n (step_bit r)

pub row_at : (steps digit k : ℕ) (rows : List ℕ) → IsTrue (rows_right steps digit rows) → k < length rows
    → get_or rows k 0 ≡ step_bits steps (digit + k)
row_at steps digit k [] right within = absurd (omega arith)
row_at steps digit zero (row ∷ rows) right within =
    eqb-true row (stepped steps digit) (and_parts _ _ right).0 ∙ stepped_is steps digit
    ∙ ap (step_bits steps) (omega arith)
row_at steps digit (suc k) (row ∷ rows) right within =
    row_at steps (suc digit) k rows (and_parts _ _ right).1 (omega arith) ∙ ap (step_bits steps) (omega arith)
