-- Numbers as bytes, lowest byte first: document 01, "The block". Assumes nothing.
use Rattle.std.specs.Prelude.{List, [], ◌∷◌, ℕ, zero, suc, ◌+◌, ◌*◌, ◌/◌, ◌%◌}

-- n as k bytes
abbrev pub pack : (k n : ℕ) → List ℕ
pack zero n = []
pack (suc k) n = n % 256 ∷ pack k (n / 256)

-- the number that bytes say
abbrev pub unpack : List ℕ → ℕ
unpack [] = 0
unpack (b ∷ bs) = b + 256 * unpack bs

-- a 32-bit word
unfoldable pub word : (n : ℕ) → List ℕ
word n = pack 4 n
