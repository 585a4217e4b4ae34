-- Bytes as the digits of a number, the first the highest: keys compare as such numbers do. Assumes nothing.
use mathlib.Core.Path.{◌≡◌, refl, sym, ap, ap₂, ◌∙◌}
use mathlib.Core.List.{List, [], ◌∷◌, ◌++◌}
use Prim.Native.Nat.{ℕ, suc, ◌+◌, ◌*◌, ◌<◌, ◌≤◌}
use native.Mathlib.Omega.{arith}
use lib.ListN.{length, take, drop, get_or}
use lib.Seq.{take-add, drop-drop}
use Rattle.std.specs.Int.{w64, from_be_bytes}
use Rattle.words.specs.Lists.{Bytes}
use Rattle.words.proofs.Slices.{four}
use Rattle.key_map.specs.Keys.{before}
use Rattle.key_map.specs.Digits.{high}
use Rattle.key_map.proofs.Keys.{by_byte, before_less, before_equal, before_more}

-- a number and the byte behind it compare as the one number that they make
module _ (x y p q : ℕ) (s t : List ℕ) (hp : p < 256) (hq : q < 256) where
  same_number : x ≡ y → before (p ∷ s) (q ∷ t) ≡ before ((p + 256 * x) ∷ s) ((q + 256 * y) ∷ t)
  same_number e =
      by_byte p q
      (λ h. before_less p q s t h ∙ sym (before_less (p + 256 * x) (q + 256 * y) s t (omega arith)))
      (λ h. before_equal p q s t h ∙ sym (before_equal (p + 256 * x) (q + 256 * y) s t (omega arith)))
      (λ h. before_more p q s t h ∙ sym (before_more (p + 256 * x) (q + 256 * y) s t (omega arith)))

  one_more : before (x ∷ p ∷ s) (y ∷ q ∷ t) ≡ before ((p + 256 * x) ∷ s) ((q + 256 * y) ∷ t)
  one_more =
      by_byte x y
      (λ h. before_less x y (p ∷ s) (q ∷ t) h ∙ sym (before_less (p + 256 * x) (q + 256 * y) s t (omega arith)))
      (λ h. before_equal x y (p ∷ s) (q ∷ t) h ∙ same_number h)
      (λ h. before_more x y (p ∷ s) (q ∷ t) h ∙ sym (before_more (p + 256 * x) (q + 256 * y) s t (omega arith)))

-- so do as many bytes of both
pub high_before : (l m s t : List ℕ) (x y : ℕ) → Bytes l → Bytes m → length l ≡ length m
    → before (x ∷ (l ++ s)) (y ∷ (m ++ t)) ≡ before (high x l ∷ s) (high y m ∷ t)
high_before [] [] s t x y hl hm e = refl
high_before [] (q ∷ m) s t x y hl hm e = absurd (omega arith)
high_before (p ∷ l) [] s t x y hl hm e = absurd (omega arith)
high_before (p ∷ l) (q ∷ m) s t x y hl hm e =
    one_more x y p q (l ++ s) (m ++ t) (hl 0) (hm 0)
    ∙ high_before l m s t (p + 256 * x) (q + 256 * y) (λ k. hl (suc k)) (λ k. hm (suc k)) (omega arith)

-- one number, the same bytes
pub high_same : (l m : List ℕ) (x y : ℕ) → Bytes l → Bytes m → length l ≡ length m
    → high x l ≡ high y m → (x ≡ y) × (l ≡ m)
high_same [] [] x y hl hm e h = (h, refl)
high_same [] (q ∷ m) x y hl hm e h = absurd (omega arith)
high_same (p ∷ l) [] x y hl hm e h = absurd (omega arith)
high_same (p ∷ l) (q ∷ m) x y hl hm e h =
    let hp : p < 256 = hl 0 in
    let hq : q < 256 = hm 0 in
    let (f, g) = high_same l m (p + 256 * x) (q + 256 * y) (λ k. hl (suc k)) (λ k. hm (suc k)) (omega arith) h in
    let d : p ≡ q = omega arith in
    (omega arith, ap₂ ◌∷◌ d g)

-- so says std's number of eight bytes
be_high : (p q r s t u v w : ℕ)
    → from_be_bytes w64 (p ∷ q ∷ r ∷ s ∷ t ∷ u ∷ v ∷ w ∷ []) ≡ high 0 (p ∷ q ∷ r ∷ s ∷ t ∷ u ∷ v ∷ w ∷ [])
be_high p q r s t u v w = omega arith

-- eight bytes from place i on, one by one
pub eight : (i : ℕ) (s : List ℕ) → i + 8 ≤ length s
    → take 8 (drop i s)
    ≡ get_or s i 0 ∷ get_or s (i + 1) 0 ∷ get_or s (i + 2) 0 ∷ get_or s (i + 3) 0
    ∷ get_or s (i + 4) 0 ∷ get_or s (i + 5) 0 ∷ get_or s (i + 6) 0 ∷ get_or s (i + 7) 0 ∷ []
eight i s fits =
    let e₅ : i + 4 + 1 ≡ i + 5 = omega arith in
    let e₆ : i + 4 + 2 ≡ i + 6 = omega arith in
    let e₇ : i + 4 + 3 ≡ i + 7 = omega arith in
    let behind = rw (e₅, e₆, e₇) at (ap (take 4) (drop-drop 4 i s) ∙ four (i + 4) s (omega arith)) in
    take-add 4 4 (drop i s) ∙ ap₂ ◌++◌ (four i s (omega arith)) behind

-- and as a number
pub eight_high : (i : ℕ) (s : List ℕ) → i + 8 ≤ length s
    → from_be_bytes w64 (get_or s i 0 ∷ get_or s (i + 1) 0 ∷ get_or s (i + 2) 0 ∷ get_or s (i + 3) 0
    ∷ get_or s (i + 4) 0 ∷ get_or s (i + 5) 0 ∷ get_or s (i + 6) 0 ∷ get_or s (i + 7) 0 ∷ [])
    ≡ high 0 (take 8 (drop i s))
eight_high i s fits = be_high _ _ _ _ _ _ _ _ ∙ ap (high 0) (sym (eight i s fits))
