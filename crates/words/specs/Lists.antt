-- Lists put together and taken apart, and what holds of each element. Assumes nothing.
use Rattle.std.specs.Prelude.{Bool, true, ◌&&◌, List, [], ◌∷◌, ◌++◌, ℕ, zero, suc, ◌+◌, eqb, ◌<◌, length, get_or, take}
use Rattle.std.specs.Prelude.{drop}

-- the source's `splice`: x in the place of as many bytes of d, from `at` on
unfoldable pub splice : (d : List ℕ) (at : ℕ) (x : List ℕ) → List ℕ
splice d at x = take at d ++ (x ++ drop (at + length x) d)

-- the source's `concatSeq`: blocks, one behind the other
abbrev pub concat_seq : {A : Type 0} → List (List A) → List A
concat_seq [] = []
concat_seq (b ∷ bs) = b ++ concat_seq bs

-- the first `count` pieces of `size` bytes each
abbrev pub chunks : (size count : ℕ) (s : List ℕ) → List (List ℕ)
chunks size zero s = []
chunks size (suc n) s = take size s ∷ chunks size n (drop size s)

-- every byte is 0
unfoldable pub all_zero : List ℕ → Bool
all_zero [] = true
all_zero (x ∷ xs) = eqb x 0 && all_zero xs

-- each element has a property
abbrev pub All : {A : Type 0} → (A → Type 0) → List A → Type 0
All P [] = Unit {0}
All P (x ∷ xs) = P x × All P xs

-- what a slice of bytes holds: every element is below 256
abbrev pub Bytes : List ℕ → Type 0
Bytes s = (k : ℕ) → get_or s k 0 < 256
