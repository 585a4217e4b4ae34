-- `crc32c::with_due` meets its contract. The invariant: the registers and the bytes that are left come to what they
-- came to at first. Assumes nothing.
use mathlib.Core.Path.{◌≡◌}
use Prim.Native.Nat.{ℕ, ◌-◌}
use lib.ListN.{length, get_or, drop}
use Rattle.crc32c.specs.Lanes.{lanes}
use Rattle.crc32c.proofs.with_due.Given as goal

abbrev pub invariant-loop-word : goal.invariant-loop-word
invariant-loop-word l = record {
  four : length l.registers ≡ 4;
  left : l.rest ≡ drop (length l.s - length l.rest) l.s;
  same : lanes (get_or l.registers 0 0) (drop 1 l.registers) l.rest
      ≡ lanes (get_or l.fn.registers 0 0) (drop 1 l.fn.registers) l.s;
}

abbrev pub decreases-loop-word : goal.decreases-loop-word
decreases-loop-word l = length l.rest
