-- `ring_reads` meets its contract: each pass is a list's, and the clones are added where both read. Assumes nothing.
use native.Mathlib.Omega.{arith}
use Rattle.journalist.proofs.Packaging.{clones_read_few, no_frozen_read, no_memory_read, other_clones}
use Rattle.journalist.proofs.Packaging.{same_clones}
use Rattle.journalist.proofs.package.ring_reads.Goals as goal

pub returns-in_err-f : goal.returns-in_err-f
returns-in_err-f c = rw c.from_residual.ensures (no_frozen_read _ _ _ c.in_err-f.ensures)

pub returns-in_err-m : goal.returns-in_err-m
returns-in_err-m c =
    rw c.from_residual-in_err-m.ensures (no_memory_read _ _ _ _ c.in_ok-f.ensures c.in_err-m.ensures)

-- the clones' sum stays small: each list has at most its entries
pub overflow_add-f : goal.overflow_add-f
overflow_add-f c =
    let f = clones_read_few _ _ _ c.in_ok-f.ensures in
    let m = clones_read_few _ _ _ c.in_ok-m.ensures in
    omega (arith, f, m, c.requires)

pub returns-then-f-m : goal.returns-then-f-m
returns-then-f-m c = other_clones _ _ _ _ _ c.in_ok-f.ensures c.in_ok-m.ensures c.if-f-m.true

pub returns : goal.returns
returns c = same_clones _ _ _ _ _ c.in_ok-f.ensures c.in_ok-m.ensures c.if-f-m.false
