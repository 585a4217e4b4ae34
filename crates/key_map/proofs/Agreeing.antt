-- Two keys compared from the front: where their first bytes agree, what is left compares as the whole. Assumes nothing.
use mathlib.Core.Path.{◌≡◌, refl, sym, ap, ap₂, ◌∙◌}
use mathlib.Core.Bool.{Bool, true, false, ◌&&◌, ◌||◌}
use mathlib.Core.List.{List, ◌∷◌, ◌++◌}
use Prim.Native.Nat.{ℕ, suc, ◌+◌, ◌≤◌, ◌<◌, min}
use native.Mathlib.Omega.{arith}
use borrow.Author.Tests.{ltb-true, ltb-false, ne_eqb}
use lib.Dec.{eqb, ltb}
use lib.ListN.{length, take, drop, get_or, length-drop, drop_of_length-le, take-append-drop}
use lib.Seq.{drop-cons, drop-drop, length-take-le, take-add, take-take}
use Rattle.words.specs.Lists.{Bytes}
use Rattle.key_map.specs.Keys.{before}
use Rattle.key_map.specs.Digits.{high, Agree}
use Rattle.key_map.proofs.Keys.{before_under}
use Rattle.key_map.proofs.Digits.{high_before, high_same}

next : (a : List ℕ) (i : ℕ) → i < length a → drop i a ≡ get_or a i 0 ∷ drop (i + 1) a
next a i h = let e : suc i ≡ i + 1 = omega arith in drop-cons a i 0 h ∙ ap (λ (k : ℕ). get_or a i 0 ∷ drop k a) e

-- the next eight, and those behind them
split : (s : List ℕ) (i : ℕ) → take 8 (drop i s) ++ drop (i + 8) s ≡ drop i s
split s i = ap (λ (l : List ℕ). take 8 (drop i s) ++ l) (sym (drop-drop 8 i s)) ∙ take-append-drop 8 (drop i s)

module _ (a b : List ℕ) where
  pub agree_less : (i k : ℕ) → k ≤ i → Agree a b i → Agree a b k
  agree_less i k h w =
      record {
        in_a = omega arith;
        in_b = omega arith;
        first = sym (take-take k i a h) ∙ ap (take k) w.first ∙ take-take k i b h;
      }

  more : (i n : ℕ) → i + n ≤ length a → i + n ≤ length b → Agree a b i → take n (drop i a) ≡ take n (drop i b)
      → Agree a b (i + n)
  more i n in_a in_b w e =
      record { in_a = in_a; in_b = in_b; first = take-add i n a ∙ ap₂ ◌++◌ w.first e ∙ sym (take-add i n b) }

  module _ (i : ℕ) (w : Agree a b i) where
    whole : take i a ++ drop i b ≡ b
    whole = ap (λ (l : List ℕ). l ++ drop i b) w.first ∙ take-append-drop i b

    before_left : before (drop i a) (drop i b) ≡ before a b
    before_left =
        sym (before_under (take i a) (drop i a) (drop i b)) ∙ ap₂ before (take-append-drop i a) whole

    -- where the shorter ends, the longer may go on
    pub shorter_ends : i ≡ min (length a) (length b) → ltb (length a) (length b) ≡ before a b
    shorter_ends e = go (ltb (length a) (length b)) refl ∙ before_left
      where
        go : (t : Bool) → ltb (length a) (length b) ≡ t → t ≡ before (drop i a) (drop i b)
        go true f =
            let h : length a < length b = ltb-true (length a) (length b) f in
            let ends : length a ≤ i = omega arith in
            let further : i < length b = omega arith in
            rw (drop_of_length-le a ends, next b i further)
        go false f =
            let h : length b ≤ length a = ltb-false (length a) (length b) f in
            let ends : length b ≤ i = omega arith in
            rw (drop_of_length-le b ends)

  -- by the next eight bytes, as the numbers x and y
  module _ (i : ℕ) (w : Agree a b i) (in_a : i + 8 ≤ length a) (in_b : i + 8 ≤ length b)
      (bytes_a : Bytes (take 8 (drop i a))) (bytes_b : Bytes (take 8 (drop i b))) (x y : ℕ)
      (is_x : x ≡ high 0 (take 8 (drop i a)))
      (is_y : y ≡ high 0 (take 8 (drop i b))) where
    there : (s : List ℕ) → i + 8 ≤ length s → 8 ≤ length (drop i s)
    there s h = omega (arith, length-drop i s)

    lengths : length (take 8 (drop i a)) ≡ length (take 8 (drop i b))
    lengths = length-take-le 8 (drop i a) (there a in_a) ∙ sym (length-take-le 8 (drop i b) (there b in_b))

    pub eight_same : x ≡ y → Agree a b (i + 8)
    eight_same e =
        more i 8 in_a in_b w
        (high_same (take 8 (drop i a)) (take 8 (drop i b)) 0 0 bytes_a bytes_b lengths
        (sym is_x ∙ e ∙ is_y)).1

    pub eight_order : (x ≡ y → ⊥) → ltb x y ≡ before a b
    eight_order n =
        sym (numbers (ltb x y))
        ∙ ap₂ (λ (m n : ℕ). before (m ∷ drop (i + 8) a) (n ∷ drop (i + 8) b)) is_x is_y
        ∙ sym (high_before (take 8 (drop i a)) (take 8 (drop i b)) (drop (i + 8) a) (drop (i + 8) b) 0 0
        bytes_a bytes_b lengths)
        ∙ ap₂ before (split a i) (split b i) ∙ before_left i w
      where
        numbers : (t : Bool) → (t || (eqb x y && before (drop (i + 8) a) (drop (i + 8) b))) ≡ t
        numbers true = refl
        numbers false = rw (ne_eqb x y n)
