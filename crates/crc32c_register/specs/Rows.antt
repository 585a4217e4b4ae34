-- Tables of a register's steps, as a test that computes. Assumes nothing.
use Rattle.std.specs.Prelude.{ℕ, zero, suc, ◌*◌, ◌/◌, ◌%◌, Bool, true, ◌&&◌, List, [], ◌∷◌, nat_eq, bit_xor}
use Rattle.crc32c_register.specs.Register.{polynomial}

-- `step_bits`, unfolded at each step
abbrev pub stepped : (n register : ℕ) → ℕ
stepped zero register = register
stepped (suc n) register = stepped n (bit_xor (register % 2 * polynomial) (register / 2))

-- each row of a table is what its digit is so many steps on, the first one's digit being `digit`
abbrev pub rows_right : (steps digit : ℕ) (rows : List ℕ) → Bool
rows_right steps digit [] = true
rows_right steps digit (row ∷ rows) = nat_eq row (stepped steps digit) && rows_right steps (suc digit) rows
