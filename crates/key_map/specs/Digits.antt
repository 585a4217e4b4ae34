-- Keys eight bytes at a time, as the code compares them. Assumes nothing.
use Rattle.std.specs.Prelude.{List, [], ◌∷◌, ◌≡◌, ℕ, ◌+◌, ◌*◌, ◌≤◌, length, take}

-- n, and behind it bytes as digits, the first the highest: a number that is ordered as the bytes are
abbrev pub high : (n : ℕ) → List ℕ → ℕ
high n [] = n
high n (x ∷ l) = high (x + 256 * n) l

-- both have i first bytes, and they are the same
pub record Agree (a b : List ℕ) (i : ℕ) : Type 0 where
  pub in_a : i ≤ length a
  pub in_b : i ≤ length b
  pub first : take i a ≡ take i b
