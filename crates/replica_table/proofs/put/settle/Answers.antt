-- `settle` meets its contract: what was put from the front on is brought back whole. Assumes nothing.
use mathlib.Core.Path.{◌≡◌, ◌∙◌}
use Prim.Native.Nat.{◌-◌}
use lib.ListN.{take}
use lib.Seq.{length-take-le}
use native.Mathlib.Omega.{arith}
use Rattle.journal_entry.specs.Places.{part}
use Rattle.replica_table.proofs.Putting.{settled, brought_back}
use Rattle.replica_table.proofs.put.settle.Goals as goal

pub returns-clause-table_new : goal.returns-clause-table_new
returns-clause-table_new c =
    let x = c.args in
    let n = c.put_bytes-total.result in
    let w = c.put_bytes-total.new.dst in
    let nothing_off : n - 0 ≡ n = omega arith in
    settled x.table.now (take n w) n x.used (length-take-le n w (omega arith)) (omega arith) (omega arith) c.requires.4
    c.put_bytes.new.dst c.put_zeros.new.dst (rw nothing_off at c.put_bytes.ensures.dst_new) c.put_zeros.ensures
    ∙ brought_back x.table.now x.work.now (part x.table.now x.end x.used) x.at c.put_bytes-total.new.dst
    c.put_bytes-total.result c.put_bytes-total.ensures.value (omega arith) c.put_bytes-total.ensures.dst_new
