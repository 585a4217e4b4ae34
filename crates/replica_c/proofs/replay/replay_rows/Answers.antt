-- `replay_rows` meets its contract: the call on the rows counted, or pop's numbers and 2. Assumes nothing.
use mathlib.Core.Path.{refl, ap, ◌∙◌}
use Rattle.std.proofs.lemmas.Result.{err_from_is_err_and}
use Rattle.replica_c.specs.Calls.{journal_of, count_of, rows_after}
use Rattle.replica_c.proofs.Replaying.{unpopped, uncounted, counted, stored}
use Rattle.replica_c.proofs.replay.replay_rows.Goals as goal

pub returns-in_err-replay_journal_pop-clause-value : goal.returns-in_err-replay_journal_pop-clause-value
returns-in_err-replay_journal_pop-clause-value c =
    let x = c.args in
    let p = err_from_is_err_and c.from_residual.result c.from_residual.ensures.1 in
    rw (p.1, p.2) (ap journal_of (unpopped x.j x.replay.now x.rows.now x.table.now x.work.now c.if-rows-lt1.true _
    c.in_err-replay_journal_pop.ensures))

pub returns-then-rows-lt1-clause-value : goal.returns-then-rows-lt1-clause-value
returns-then-rows-lt1-clause-value c =
    let x = c.args in
    ap journal_of (uncounted x.j x.replay.now x.rows.now x.table.now x.work.now c.if-rows-lt1.true _
    c.in_ok-replay_journal_pop.ensures)

pub returns-in_err-next-clause-value : goal.returns-in_err-next-clause-value
returns-in_err-next-clause-value c =
    let x = c.args in
    let p = err_from_is_err_and c.from_residual-in_err-next.result c.from_residual-in_err-next.ensures.1 in
    rw (p.1, p.2) (ap journal_of (c.in_err-next.ensures.value
    ∙ counted x.j x.replay.now x.rows.now x.table.now x.work.now c.if-rows-lt1.false))

pub returns-in_err-next-clause-rows_new : goal.returns-in_err-next-clause-rows_new
returns-in_err-next-clause-rows_new c =
    let x = c.args in
    ap (λ o. rows_after x.rows.now (count_of o)) (c.in_err-next.ensures.value
    ∙ counted x.j x.replay.now x.rows.now x.table.now x.work.now c.if-rows-lt1.false)

pub returns-clause-value : goal.returns-clause-value
returns-clause-value c =
    let x = c.args in
    ap journal_of (c.in_ok-next.ensures.value
    ∙ counted x.j x.replay.now x.rows.now x.table.now x.work.now c.if-rows-lt1.false)

pub returns-clause-rows_new : goal.returns-clause-rows_new
returns-clause-rows_new c =
    let x = c.args in
    stored x.j x.replay.now x.rows.now x.table.now x.work.now c.if-rows-lt1.false _ c.in_ok-next.next
    (c.in_ok-next.ensures.value ∙ counted x.j x.replay.now x.rows.now x.table.now x.work.now c.if-rows-lt1.false) refl
