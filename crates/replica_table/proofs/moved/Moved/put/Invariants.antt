-- `put` meets its contract: what is left, put behind, is the whole (`Moving`). Assumes nothing.
use Prim.Native.Nat.{◌-◌}
use Rattle.replica_table.proofs.Moving.{Moving}
use Rattle.replica_table.proofs.moved.Moved.put.Given as goal

abbrev pub invariant-loop : goal.invariant-loop
invariant-loop l =
    Moving l.table l.self.at l.self.rows l.self.from_len l.to l.fn.work l.fn.at l.work l.here (l.self.rows - l.counter)
    l.place
