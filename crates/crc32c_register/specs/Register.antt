-- The register of CRC-32C, bit by bit: RFC 3720, section 12.1. The Castagnoli polynomial 0x1EDC6F41, the lowest bit
-- first. Assumes nothing.
use Rattle.std.specs.Prelude.{ℕ, zero, suc, ◌*◌, ◌/◌, ◌%◌}
use Rattle.std.specs.Int.Bits.{bit_xor}

-- 0x1EDC6F41 with its 32 bits in reverse order
abbrev pub polynomial : ℕ
polynomial = 0x82F6_3B78

-- one bit: the register goes down by one place, and where the bit that falls out is 1 the polynomial is added
unfoldable pub step_bit : (register : ℕ) → ℕ
step_bit register = bit_xor (register % 2 * polynomial) (register / 2)

-- n bits
unfoldable pub step_bits : (n register : ℕ) → ℕ
step_bits zero register = register
step_bits (suc n) register = step_bits n (step_bit register)

-- one byte: it is added at the low end, and eight bits go out
unfoldable pub step_byte : (register byte : ℕ) → ℕ
step_byte register byte = step_bits 8 (bit_xor register byte)
