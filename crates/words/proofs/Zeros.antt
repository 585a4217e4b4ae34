-- The test for zeros, by the list shifted: each element is as the one before it; what passes it is zeros, and zeros
-- pass it. Assumes nothing.
use mathlib.Core.Path.{◌≡◌, refl, sym, ap₂, ◌∙◌}
use mathlib.Core.Bool.{Bool, true, false, ◌&&◌}
use mathlib.Core.List.{List, [], ◌∷◌}
use Prim.Native.Nat.{ℕ, zero, suc}
use borrow.Author.Tests.{eqb-true, eqb-false, eq-eqb, ne_eqb}
use lib.Dec.{eqb}
use lib.ListN.{length, take, replicate}
use Rattle.std.specs.Cmp.Lexicographic.{pointwise}
use Rattle.words.specs.Lists.{all_zero}

-- where an element is 0, those behind it are exactly where each is as the one before it
pub shifted : (x : ℕ) (s : List ℕ) → x ≡ 0 → pointwise eqb s (take (length s) (x ∷ s)) ≡ all_zero s
unfolding all_zero
shifted x [] e = refl
shifted x (y ∷ s) e = go (eqb y 0) refl (shifted y s)
  where
    go : (b : Bool) → eqb y 0 ≡ b → (y ≡ 0 → pointwise eqb s (take (length s) (y ∷ s)) ≡ all_zero s)
        → (eqb y x && pointwise eqb s (take (length s) (y ∷ s))) ≡ (b && all_zero s)
    go true f further = let z : y ≡ 0 = eqb-true y 0 f in rw (eq-eqb y x (z ∙ sym e), further z)
    go false f further =
        let n : y ≡ x → ⊥ = λ same. eqb-false y 0 f (same ∙ e) in rw (ne_eqb y x n)

pub zeros_told : (s : List ℕ) → all_zero s ≡ true → s ≡ replicate (length s) 0
unfolding all_zero
zeros_told [] t = refl
zeros_told (x ∷ s) t = go (eqb x 0) refl t (zeros_told s)
  where
    go : (b : Bool) → eqb x 0 ≡ b → (b && all_zero s) ≡ true → (all_zero s ≡ true → s ≡ replicate (length s) 0)
        → x ∷ s ≡ 0 ∷ replicate (length s) 0
    go true e t further = ap₂ ◌∷◌ (eqb-true x 0 e) (further t)
    go false e t further = cc

pub zeros_pass : (n : ℕ) → all_zero (replicate n 0) ≡ true
unfolding all_zero
zeros_pass zero = refl
zeros_pass (suc n) = zeros_pass n
