-- `step` meets its contract: 2, 3 and 4 in their order, and what lies behind them. Assumes nothing.
use mathlib.Core.Path.{ap}
use native.Mathlib.Omega.{arith}
use lib.ListN.{length}
use Rattle.std.proofs.lemmas.Result.{err_from_is_err_and}
use Rattle.journal_entry.specs.Entry.{entry_of, second_limit}
use Rattle.journal_entry.specs.Places.{is_clone_kind}
use Rattle.journal_entry.proofs.Sound.{first_back, second_back}
use Rattle.journal_entry.proofs.Walks.{place_clone}
use Rattle.table_rows.specs.Places.{rows_in}
use Rattle.replica_table.proofs.Stepping.{refused, refuse_table, refuse_work, refuse_first, refuse_second}
use Rattle.replica_table.proofs.step.Goals as goal

pub returns-in_err-found : goal.returns-in_err-found
returns-in_err-found c =
    let x = c.args in
    let e = entry_of (is_clone_kind x.kind) x.first.now x.second.now in
    let p = err_from_is_err_and c.from_residual.result c.from_residual.ensures.1 in
    let (none, why) = c.in_err-found.ensures in
    let told = refused x.count x.table.now x.work.now e 2 (refuse_table x.count x.table.now x.work.now e none) in
    record { value = rw (p.1, p.2, why) told.0; table_new = told.1.0; work_new = told.1.1 }

pub returns-then-work-table : goal.returns-then-work-table
returns-then-work-table c =
    let x = c.args in
    let e = entry_of (is_clone_kind x.kind) x.first.now x.second.now in
    let told = refused x.count x.table.now x.work.now e 2
    (refuse_work x.count x.table.now x.work.now e (rows_in x.count x.table.now) c.in_ok-found.ensures.is
    c.if-work-table.true) in
    record { value = told.0; table_new = told.1.0; work_new = told.1.1 }

pub returns-then-first-gt-FIRST_LIMIT : goal.returns-then-first-gt-FIRST_LIMIT
returns-then-first-gt-FIRST_LIMIT c =
    let x = c.args in
    let e = entry_of (is_clone_kind x.kind) x.first.now x.second.now in
    let first_is = ap length (first_back (is_clone_kind x.kind) x.first.now x.second.now) in
    let told = refused x.count x.table.now x.work.now e 3
    (refuse_first x.count x.table.now x.work.now e (rows_in x.count x.table.now) c.in_ok-found.ensures.is
    c.if-work-table.false (omega (arith, first_is, c.if-first-gt-FIRST_LIMIT.true))) in
    record { value = told.0; table_new = told.1.0; work_new = told.1.1 }

pub returns-then-second_limit-second : goal.returns-then-second_limit-second
returns-then-second_limit-second c =
    let x = c.args in
    let e = entry_of (is_clone_kind x.kind) x.first.now x.second.now in
    let first_is = ap length (first_back (is_clone_kind x.kind) x.first.now x.second.now) in
    let second_is = ap length (second_back (is_clone_kind x.kind) x.first.now x.second.now) in
    let limit_is = ap second_limit (place_clone (is_clone_kind x.kind) x.first.now x.second.now) in
    let told = refused x.count x.table.now x.work.now e 4
    (refuse_second x.count x.table.now x.work.now e (rows_in x.count x.table.now) c.in_ok-found.ensures.is
    c.if-work-table.false (omega (arith, first_is, c.if-first-gt-FIRST_LIMIT.false))
    (omega (arith, second_is, limit_is, c.second_limit.ensures.value, c.if-second_limit-second.true))) in
    record { value = told.0; table_new = told.1.0; work_new = told.1.1 }
