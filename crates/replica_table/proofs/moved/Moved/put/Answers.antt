-- `put` meets its contract: each row that fits is put behind those before it. Assumes nothing.
use mathlib.Core.Path.{◌≡◌}
use Prim.Native.Nat.{◌-◌, ◌+◌}
use native.Mathlib.Omega.{arith}
use Rattle.replica_table.proofs.Moving.{moving_none, moving_row, moving_more, moving_ends}
use Rattle.replica_table.proofs.moved.Moved.put.Goals as goal

pub returns-in_default-clause-value : goal.returns-in_default-clause-value
returns-in_default-clause-value c =
    absurd (moving_none _ _ _ _ _ _ _ _ _ _ _ c.loop.invariant (omega arith) _ c.row_at.ensures
    c.in_default.is)

pub returns-in_default-clause-work_new : goal.returns-in_default-clause-work_new
returns-in_default-clause-work_new c =
    absurd (moving_none _ _ _ _ _ _ _ _ _ _ _ c.loop.invariant (omega arith) _ c.row_at.ensures
    c.in_default.is)

pub overflow_add-rest_at : goal.overflow_add-rest_at
overflow_add-rest_at c =
    let x = moving_row _ _ _ _ _ _ _ _ _ _ _ c.loop.invariant
    (omega arith) _ c.row_at.ensures c.requires.0 _ c.in-Some.is in
    record { fits = omega (arith, x.rest_from, x.inside) }

pub overflow_sub-more : goal.overflow_sub-more
overflow_sub-more c =
    (moving_row _ _ _ _ _ _ _ _ _ _ _ c.loop.invariant
    (omega arith) _ c.row_at.ensures c.requires.0 _ c.in-Some.is).long_enough

pub slice_bounds-put_moved-count : goal.slice_bounds-put_moved-count
slice_bounds-put_moved-count c =
    (moving_row _ _ _ _ _ _ _ _ _ _ _ c.loop.invariant
    (omega arith) _ c.row_at.ensures c.requires.0 _ c.in-Some.is).rest_from

pub slice_bounds-put_moved-start : goal.slice_bounds-put_moved-start
slice_bounds-put_moved-start c =
    (moving_row _ _ _ _ _ _ _ _ _ _ _ c.loop.invariant
    (omega arith) _ c.row_at.ensures c.requires.0 _ c.in-Some.is).rest_from

pub slice_bounds-put_moved-end : goal.slice_bounds-put_moved-end
slice_bounds-put_moved-end c =
    (moving_row _ _ _ _ _ _ _ _ _ _ _ c.loop.invariant
    (omega arith) _ c.row_at.ensures c.requires.0 _ c.in-Some.is).inside

pub put_moved-place-requires : goal.put_moved-place-requires
put_moved-place-requires c =
    let x = moving_row _ _ _ _ _ _ _ _ _ _ _ c.loop.invariant
    (omega arith) _ c.row_at.ensures c.requires.0 _ c.in-Some.is in
    (x.room, x.short_enough)

pub loop-preserved : goal.loop-preserved
loop-preserved c =
    let less : c.args.self.rows - c.loop.counter - 1 ≡ c.args.self.rows - (c.loop.counter + 1) = omega arith in
    rw less at (moving_more _ _ _ _ _ _ _ _ _ _ _ c.loop.invariant (omega arith) _ c.row_at.ensures c.requires.0 _
    c.in-Some.is _ _ c.put_moved-place.ensures.value c.put_moved-place.ensures.dst_new)

pub returns-clause-value : goal.returns-clause-value
returns-clause-value c = (moving_ends _ _ _ _ _ _ _ _ _ _ _ c.loop.invariant (omega arith)).0

pub returns-clause-work_new : goal.returns-clause-work_new
returns-clause-work_new c = (moving_ends _ _ _ _ _ _ _ _ _ _ _ c.loop.invariant (omega arith)).1
