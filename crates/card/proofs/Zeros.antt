-- Zeros by their own name, which does not compute, and the test for them. Assumes nothing.
use mathlib.Core.Path.{◌≡◌, refl, ap}
use mathlib.Core.Bool.{Bool, ◌&&◌}
use mathlib.Core.List.{List, [], ◌∷◌}
use Prim.Native.Nat.{ℕ}
use lib.Dec.{eqb}
use lib.ListN.{length, replicate}
use Rattle.words.specs.Lists.{all_zero}
use Rattle.journal_image.specs.Image.{same_bytes}
use Rattle.card.specs.Superblock.{zeros}

pub zeros_are : (n : ℕ) → replicate n 0 ≡ zeros n
unfolding zeros
zeros_are n = refl

-- the test for zeros is the test for that list
pub all_zero_lem : (s : List ℕ) → all_zero s ≡ same_bytes s (zeros (length s))
unfolding all_zero same_bytes zeros
all_zero_lem [] = refl
all_zero_lem (x ∷ s) = ap (λ (t : Bool). eqb x 0 && t) (all_zero_lem s)
