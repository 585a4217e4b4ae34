-- What the loop over words keeps: a register, and numbers that are due later. Assumes nothing.
use mathlib.Core.List.{List, [], ◌∷◌, foldl}
use Rattle.std.specs.Prelude.{ℕ, take, drop}
use Rattle.std.specs.Int.Bits.{bit_xor}
use Rattle.crc32c_register.specs.Register.{step_byte}

-- the register after the bytes of s, where each of `due` is added to it, one after each of the first words
unfoldable pub lanes : (register : ℕ) (due s : List ℕ) → ℕ
lanes register [] s = foldl step_byte register s
lanes register (d ∷ due) s = lanes (bit_xor (foldl step_byte register (take 4 s)) d) due (drop 4 s)
