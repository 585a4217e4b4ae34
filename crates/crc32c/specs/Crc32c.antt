-- CRC-32C of bytes, and the 32 bytes at a block's head. Assumes nothing.
use mathlib.Core.List.{List, ◌++◌, foldl}
use Rattle.std.specs.Prelude.{ℕ, replicate}
use Rattle.std.specs.Int.Bits.{bit_xor}
use Rattle.crc32c_register.specs.Register.{step_byte}
use Rattle.words.specs.Words.{word}

abbrev pub all_ones : ℕ
all_ones = 0xFFFF_FFFF

-- RFC 3720, section 12.1: the register starts at all ones, takes the bytes in order, and is complemented at the end
unfoldable pub crc32c_of : List ℕ → ℕ
crc32c_of bytes = bit_xor (foldl step_byte all_ones bytes) all_ones

-- document 01, "The block": the payload's CRC-32C, lowest byte first, then 28 zero bytes (its figure for upstream's
-- `crc32_c_padded`)
unfoldable pub checksum_bytes : List ℕ → List ℕ
checksum_bytes payload = word (crc32c_of payload) ++ replicate 28 0
