-- `crc32c::with_words` meets its contract. The invariant: the four registers, with the bytes that are left, are the
-- register with all. Assumes nothing.
use mathlib.Core.Path.{◌≡◌}
use mathlib.Core.List.{foldl}
use Prim.Native.Nat.{◌*◌}
use lib.ListN.{length, get_or, drop}
use Rattle.crc32c_register.specs.Register.{step_byte}
use Rattle.crc32c.specs.Lanes.{lanes}
use Rattle.crc32c.proofs.with_words.Given as goal

abbrev pub invariant-loop-word : goal.invariant-loop-word
invariant-loop-word l = (length l.registers ≡ 4)
    × (lanes (get_or l.registers 0 0) (drop 1 l.registers) (drop (4 * l.word-index) l.s)
    ≡ foldl step_byte l.fn.register l.fn.s)
