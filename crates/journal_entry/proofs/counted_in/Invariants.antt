-- `counted_in` meets its contract: what is left to be read ends where all of it ends (`Walking`).
-- Assumes nothing.
use Prim.Native.Nat.{◌-◌}
use Rattle.journal_entry.proofs.Walks.{Walking}
use Rattle.journal_entry.proofs.counted_in.Given as goal

abbrev pub invariant-loop : goal.invariant-loop
invariant-loop g l =
    Walking (g.S.ByteSequence.bytes l.s) l.at l.end l.count l.place (l.count - l.counter) l.clones
