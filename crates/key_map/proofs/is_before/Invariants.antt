-- `is_before` meets its contract: the bytes compared agree. Assumes nothing.
use Prim.Native.Nat.{◌-◌}
use Rattle.key_map.specs.Digits.{Agree}
use Rattle.key_map.proofs.is_before.Given as goal

abbrev pub invariant-loop-i : goal.invariant-loop-i
invariant-loop-i l = Agree l.a l.b l.i

abbrev pub decreases-loop-i : goal.decreases-loop-i
decreases-loop-i l = l.last - l.i
