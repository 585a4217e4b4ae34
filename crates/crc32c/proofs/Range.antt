-- The register stays below 2 ^ 32, so the four bytes at a block's head say the checksum whole. Assumes nothing.
use mathlib.Core.Path.{◌≡◌, ◌∙◌, ap}
use mathlib.Core.List.{List, [], ◌∷◌, foldl}
use Prim.Native.Nat.{ℕ, zero, suc, ◌+◌, ◌*◌, ◌/◌, ◌%◌, ◌^◌, ◌<◌}
use native.Mathlib.Omega.{arith}
use lib.Bits.{xor_lt}
use lib.ListN.{length, take, replicate, length-append}
use Rattle.crc32c_register.specs.Register.{polynomial, step_bit, step_bits, step_byte}
use Rattle.words.specs.Words.{unpack, word}
use Rattle.words.proofs.Words.{length_word, unpack_word}
use Rattle.words.proofs.Slices.{Bytes}
use Rattle.crc32c.specs.Crc32c.{all_ones, crc32c_of, checksum_bytes}

step_bit_lt : (r : ℕ) → r < 2 ^ 32 → step_bit r < 2 ^ 32
unfolding step_bit
step_bit_lt r h = xor_lt 32 (r % 2 * polynomial) (r / 2) (omega arith) (omega arith)

step_bits_lt : (n r : ℕ) → r < 2 ^ 32 → step_bits n r < 2 ^ 32
unfolding step_bits
step_bits_lt zero r h = h
step_bits_lt (suc n) r h = step_bits_lt n (step_bit r) (step_bit_lt r h)

fold_lt : (bs : List ℕ) → Bytes bs → (c : ℕ) → c < 2 ^ 32 → foldl step_byte c bs < 2 ^ 32
unfolding step_byte
fold_lt [] bytes c h = h
fold_lt (b ∷ bs) bytes c h =
    let b_lt : b < 256 = bytes 0 in
    fold_lt bs (λ k. bytes (suc k)) (step_byte c b) (step_bits_lt 8 _ (xor_lt 32 c b h (omega arith)))

pub crc_lt : (bs : List ℕ) → Bytes bs → crc32c_of bs < 2 ^ 32
unfolding crc32c_of
crc_lt bs bytes =
    xor_lt 32 (foldl step_byte all_ones bs) all_ones (fold_lt bs bytes all_ones (omega arith)) (omega arith)

pub length_checksum_bytes : (bs : List ℕ) → length (checksum_bytes bs) ≡ 32
unfolding checksum_bytes
length_checksum_bytes bs =
    length-append (word (crc32c_of bs)) (replicate 28 0) ∙ ap (λ (n : ℕ). n + 28) (length_word (crc32c_of bs))

pub checksum_says_crc : (bs : List ℕ) → Bytes bs → unpack (take 4 (checksum_bytes bs)) ≡ crc32c_of bs
unfolding checksum_bytes word
checksum_says_crc bs bytes = unpack_word (crc32c_of bs) (crc_lt bs bytes)
