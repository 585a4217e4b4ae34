-- `replay_next` meets its contract: pop's numbers, then the step's, and where both gave, both. Assumes nothing.
use mathlib.Core.Path.{sym}
use native.Mathlib.Omega.{arith}
use Rattle.std.proofs.lemmas.Result.{err_from_is_err_and}
use Rattle.refusals.specs.Refusals.{number_of}
use Rattle.replica.proofs.Nexts.{top_inside, step_parts, next_unpopped, next_untopped, next_step}
use Rattle.replica.proofs.replay_next.Goals as goal

pub returns-in_err-journalist : goal.returns-in_err-journalist
returns-in_err-journalist c =
    let x = c.args in
    let p = err_from_is_err_and c.from_residual.result c.from_residual.ensures.1 in
    let told = next_unpopped x.j x.replay.now x.count x.table.now x.work.now (number_of c.in_err-journalist.field-0.0)
    c.in_err-journalist.ensures in
    record { value = rw (p.1, p.2) told.0; table_new = told.1.0; work_new = told.1.1 }

pub returns-in_err-top : goal.returns-in_err-top
returns-in_err-top c =
    let x = c.args in
    let p = err_from_is_err_and c.from_residual-in_err-top.result c.from_residual-in_err-top.ensures.1 in
    let told = next_untopped x.j x.replay.now x.count x.table.now x.work.now c.in_ok-journalist.journalist
    c.in_ok-journalist.ensures (number_of c.in_err-top.field-0.0) c.in_err-top.ensures in
    record { value = rw (p.1, p.2) told.0; table_new = told.1.0; work_new = told.1.1 }

pub overflow_add-first : goal.overflow_add-first
overflow_add-first c =
    record { fits = omega (arith, (top_inside c.args.j c.args.replay.now c.in_ok-top.top (sym c.in_ok-top.ensures)).0) }

pub slice_bounds-first-end : goal.slice_bounds-first-end
slice_bounds-first-end c = (top_inside c.args.j c.args.replay.now c.in_ok-top.top (sym c.in_ok-top.ensures)).0

pub overflow_add-second : goal.overflow_add-second
overflow_add-second c =
    record { fits = omega (arith, (top_inside c.args.j c.args.replay.now c.in_ok-top.top (sym c.in_ok-top.ensures)).1) }

pub slice_bounds-second-end : goal.slice_bounds-second-end
slice_bounds-second-end c = (top_inside c.args.j c.args.replay.now c.in_ok-top.top (sym c.in_ok-top.ensures)).1

pub returns-in_err-rows : goal.returns-in_err-rows
returns-in_err-rows c =
    let x = c.args in
    let p = err_from_is_err_and c.from_residual-in_err-rows.result c.from_residual-in_err-rows.ensures.1 in
    let s = c.in_err-rows.ensures in
    let told = next_step x.j x.replay.now x.count x.table.now x.work.now c.in_ok-journalist.journalist
    c.in_ok-journalist.ensures c.in_ok-top.top c.in_ok-top.ensures _ _ _
    (step_parts x.replay.now c.in_ok-top.top x.count x.table.now x.work.now _ _ _
    (s.value, (s.table_new, s.work_new))) in
    record { value = rw (p.1, p.2) told.0; table_new = told.1.0; work_new = told.1.1 }

pub returns : goal.returns
returns c =
    let x = c.args in
    let s = c.in_ok-rows.ensures in
    let told = next_step x.j x.replay.now x.count x.table.now x.work.now c.in_ok-journalist.journalist
    c.in_ok-journalist.ensures c.in_ok-top.top c.in_ok-top.ensures _ _ _
    (step_parts x.replay.now c.in_ok-top.top x.count x.table.now x.work.now _ _ _
    (s.value, (s.table_new, s.work_new))) in
    record { value = told.0; table_new = told.1.0; work_new = told.1.1 }
