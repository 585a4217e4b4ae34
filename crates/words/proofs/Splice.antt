-- One run put behind the other is their join put once; a run of two lists joined. Assumes nothing.
use mathlib.Core.Path.{◌≡◌, refl, sym, ap, ap₂, ◌∙◌}
use mathlib.Core.List.{List, [], ◌++◌, append_assoc}
use Prim.Native.Nat.{ℕ, ◌+◌, ◌-◌, ◌≤◌}
use native.Mathlib.Nat.{le_of_eq}
use native.Mathlib.Omega.{arith}
use lib.ListN.{length, take, drop, length-append, length-take, length-drop, take-append-drop}
use lib.Seq.{take_at, take_all, take-append-le, take-append-add, drop-append-le, drop-append-add, drop-drop}
use borrow.Rule.Slice.PartMut.{put_mid}
use Rattle.words.proofs.Slices.{tail}
use Rattle.words.specs.Lists.{splice}

pub splice_nil : (d : List ℕ) (i : ℕ) → splice d i [] ≡ d
unfolding splice
splice_nil d i = let e : i + 0 ≡ i = omega arith in rw (e, take-append-drop)

pub splice_zero : (d x : List ℕ) → splice d 0 x ≡ x ++ drop (length x) d
unfolding splice
splice_zero d x = let e : 0 + length x ≡ length x = omega arith in rw e

module _ (d : List ℕ) (at : ℕ) (x : List ℕ) (fits : at + length x ≤ length d) where
  head_long : length (take at d ++ x) ≡ at + length x
  head_long = simp (length-append, length-take) (omega arith)

  split : splice d at x ≡ (take at d ++ x) ++ drop (at + length x) d
  unfolding splice
  split = sym (append_assoc (take at d) x (drop (at + length x) d))

  pub length_splice : length (splice d at x) ≡ length d
  length_splice = ap length split ∙ simp (length-append, length-take, length-drop) (omega arith)

  pub take_splice : take (at + length x) (splice d at x) ≡ take at d ++ x
  take_splice =
      ap (take (at + length x)) split ∙ take_at (take at d ++ x) (drop (at + length x) d) (at + length x) head_long

  drop_splice : (n : ℕ) → drop (at + length x + n) (splice d at x) ≡ drop (at + length x + n) d
  drop_splice n =
      ap (drop (at + length x + n)) split
      ∙ ap (λ (k : ℕ). drop (k + n) ((take at d ++ x) ++ drop (at + length x) d)) (sym head_long)
      ∙ drop-append-add (take at d ++ x) (drop (at + length x) d) n
      ∙ drop-drop n (at + length x) d

  pub splice_splice : (y : List ℕ) → splice (splice d at x) (at + length x) y ≡ splice d at (x ++ y)
  unfolding splice
  splice_splice y =
      let e : at + length x + length y ≡ at + length (x ++ y) = simp length-append (omega arith) in
      ap₂ (λ (p q : List ℕ). p ++ (y ++ q)) take_splice (drop_splice (length y))
      ∙ append_assoc (take at d) x (y ++ drop (at + length x + length y) d)
      ∙ ap (λ (l : List ℕ). take at d ++ l) (sym (append_assoc x y (drop (at + length x + length y) d)))
      ∙ ap (λ (k : ℕ). take at d ++ ((x ++ y) ++ drop k d)) e

-- n elements from `at` on
abbrev pub run : (s : List ℕ) (at n : ℕ) → List ℕ
run s at n = take n (drop at s)

-- of two lists joined: in the first, in the second, or across
module _ (a b : List ℕ) (at n : ℕ) where
  pub run_left : at + n ≤ length a → run (a ++ b) at n ≡ run a at n
  run_left h =
      ap (take n) (drop-append-le at a b (omega arith))
      ∙ take-append-le n (drop at a) b (simp length-drop (omega arith))

  pub run_right : length a ≤ at → run (a ++ b) at n ≡ run b (at - length a) n
  run_right h =
      let e : length a + (at - length a) ≡ at = omega arith in
      ap (take n) (rw e at (drop-append-add a b (at - length a)))

  run_across : at ≤ length a → length a ≤ at + n
      → run (a ++ b) at n ≡ run a at (length a - at) ++ run b 0 (n - (length a - at))
  run_across h k =
      let e : n ≡ length (drop at a) + (n - (length a - at)) = simp length-drop (omega arith) in
      ap (take n) (drop-append-le at a b h)
      ∙ ap (λ (m : ℕ). take m (drop at a ++ b)) e
      ∙ take-append-add (drop at a) b (n - (length a - at))
      ∙ ap (λ (l : List ℕ). l ++ take (n - (length a - at)) b) (sym (tail at a))

  -- put in two runs
  pub across : at ≤ length a → length a ≤ at + n → (d : List ℕ) (to : ℕ) → to + n ≤ length d
      → (d₁ : List ℕ) → d₁ ≡ splice d to (run a at (length a - at))
      → (d₂ : List ℕ) → d₂ ≡ splice d₁ (to + (length a - at)) (run b 0 (n - (length a - at)))
      → d₂ ≡ splice d to (run (a ++ b) at n)
  across h k d to room d₁ e₁ d₂ e₂ =
      let x = run a at (length a - at) in
      let y = run b 0 (n - (length a - at)) in
      let long : length x ≡ length a - at = simp (length-take, length-drop) (omega arith) in
      e₂
      ∙ ap₂ (λ (l : List ℕ) (m : ℕ). splice l (to + m) y) e₁ (sym long)
      ∙ splice_splice d to x (omega arith) y
      ∙ ap (splice d to) (sym (run_across h k))

-- a write to the part of d that starts at `at` and is as long as what it holds then
pub put_mid_splice : (d ys zs : List ℕ) (at k : ℕ) → ys ≡ zs → length zs ≡ k → put_mid at k d ys ≡ splice d at zs
unfolding splice
put_mid_splice d ys zs at k e n =
    ap₂ (λ (p q : List ℕ). take at d ++ (p ++ q)) e
    (drop-drop k at d ∙ ap (λ (m : ℕ). drop (at + m) d) (sym n))

-- a write to the front of d
pub put_mid_front : (d s ys : List ℕ) (k : ℕ) → ys ≡ s → length s ≡ k
    → put_mid 0 k d ys ≡ take (length s) s ++ drop (length s) d
put_mid_front d s ys k e n =
    ap₂ ◌++◌ (e ∙ sym (take_all (length s) s (le_of_eq refl))) (ap (λ (m : ℕ). drop m d) (sym n))
