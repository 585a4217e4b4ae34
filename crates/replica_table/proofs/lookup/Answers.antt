-- `lookup` meets its contract: one row of the key, or none. Assumes nothing.
use native.Mathlib.Omega.{arith}
use Rattle.std.proofs.lemmas.Result.{err_from_is_err_and}
use Rattle.table_rows.specs.Places.{rows_in}
use Rattle.replica_table.proofs.Looking.{look_refused, look_absent, look_bounds, look_found}
use Rattle.replica_table.proofs.lookup.Goals as goal

pub returns-in_err-span : goal.returns-in_err-span
returns-in_err-span c =
    let p = err_from_is_err_and c.from_residual.result c.from_residual.ensures.1 in
    let (none, why) = c.in_err-span.ensures in
    rw (p.1, p.2, why) (look_refused c.args.count c.args.table.now c.args.key.now none)

pub returns-then-span-eq0 : goal.returns-then-span-eq0
returns-then-span-eq0 c =
    let x = c.args in
    let f = c.in_ok-span.ensures in
    look_absent x.count x.table.now x.key.now (rows_in x.count x.table.now) f.bytes f.is _ f.span_is c.if-span-eq0.true

pub overflow_add-at : goal.overflow_add-at
overflow_add-at c =
    let x = c.args in
    let f = c.in_ok-span.ensures in
    let b = look_bounds x.count x.table.now x.key.now (rows_in x.count x.table.now) f.bytes f.is _ f.span_is
    c.if-span-eq0.false in
    record { fits = omega (arith, b) }

pub overflow_add-at-2 : goal.overflow_add-at-2
overflow_add-at-2 c =
    let x = c.args in
    let f = c.in_ok-span.ensures in
    let b = look_bounds x.count x.table.now x.key.now (rows_in x.count x.table.now) f.bytes f.is _ f.span_is
    c.if-span-eq0.false in
    record { fits = omega (arith, b) }

pub overflow_sub-result : goal.overflow_sub-result
overflow_sub-result c =
    let x = c.args in
    let f = c.in_ok-span.ensures in
    (look_bounds x.count x.table.now x.key.now
    (rows_in x.count x.table.now) f.bytes f.is _ f.span_is c.if-span-eq0.false).0

pub returns : goal.returns
returns c =
    let x = c.args in
    let f = c.in_ok-span.ensures in
    look_found x.count x.table.now x.key.now (rows_in x.count x.table.now) f.bytes f.is _ f.span_is c.if-span-eq0.false
