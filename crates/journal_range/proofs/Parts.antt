-- What lies behind a place of two lists joined: a part of each. Assumes nothing.
use mathlib.Core.Path.{◌≡◌, sym, ap₂, ◌∙◌}
use mathlib.Core.List.{List, ◌++◌}
use Prim.Native.Nat.{ℕ, ◌+◌, ◌-◌, ◌≤◌}
use native.Mathlib.Decide.{dec_le}
use native.Mathlib.Omega.{arith}
use lib.ListN.{length, take, drop, drop_of_length-le}
use lib.Seq.{drop-append-le, drop-append-add}
use Rattle.words.proofs.Slices.{tail}

-- past the end there is nothing, however far
past_end : (b : List ℕ) (n m : ℕ) → (n ≤ length b → m ≡ n) → (length b ≤ n → m ≡ length b) → drop m b ≡ drop n b
past_end b n m inside outside = go (dec_le n (length b))
  where
    go : Dec (n ≤ length b) → drop m b ≡ drop n b
    go (yes h) = rw (inside h)
    go (no h) =
        let far : length b ≤ n = omega arith in
        rw (outside far, drop_of_length-le b {i = n} far, drop_of_length-le b {i = length b} (omega arith))

module _ (a b : List ℕ) (at k m : ℕ) (in_a : at ≤ length a → k ≡ at) (past_a : length a ≤ at → k ≡ length a)
    (in_b : at - k ≤ length b → m ≡ at - k) (past_b : length b ≤ at - k → m ≡ length b) where
  pub rest_parts : take (length a - k) (drop k a) ++ take (length b - m) (drop m b) ≡ drop at (a ++ b)
  rest_parts = ap₂ ◌++◌ (tail k a) (tail m b ∙ past_end b (at - k) m in_b past_b) ∙ go (dec_le at (length a))
    where
      go : Dec (at ≤ length a) → drop k a ++ drop (at - k) b ≡ drop at (a ++ b)
      go (yes h) =
          let none : at - at ≡ 0 = omega arith in
          rw (in_a h, none) (sym (drop-append-le at a b h))
      go (no h) =
          let far : length a ≤ at = omega arith in
          let e : length a + (at - length a) ≡ at = omega arith in
          rw (past_a far, drop_of_length-le a {i = length a} (omega arith))
          (sym (rw e at (drop-append-add a b (at - length a))))
