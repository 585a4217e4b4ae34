-- `used` meets its contract: a row that follows leaves the same to be told, and behind the last are zeros or no
-- table. Assumes nothing.
use mathlib.Core.Bool.{Bool, cond}
use mathlib.Core.Path.{sym, ap, ◌∙◌}
use Rattle.std.specs.Prelude.{None, Some}
use native.Mathlib.Omega.{arith}
use Rattle.words.specs.Lists.{all_zero}
use Rattle.words.proofs.Slices.{tail}
use Rattle.table_rows.proofs.Rests.{none_follows, row_follows, last}
use Rattle.table_rows.proofs.rest.Rest.used.Goals as goal

pub returns-in_err-row : goal.returns-in_err-row
returns-in_err-row c =
    let l = c.loop-rest in
    c.from_residual.ensures
    ∙ none_follows c.args.table.now l.rest l.invariant.lies c.loop-rest-test.true (sym c.in_err-row.was ∙ c.row.ensures)
    ∙ l.invariant.tells

pub loop-rest-preserved : goal.loop-rest-preserved
loop-rest-preserved c =
    let l = c.loop-rest in
    let f = row_follows c.args.table.now l.rest l.invariant.lies c.loop-rest-test.true c.in_ok-row.row
    (sym c.in_ok-row.was ∙ c.row.ensures) in
    rw c.behind-rest.ensures (record { lies = f.lies; tells = f.tells ∙ l.invariant.tells })

pub returns-then-not-all_zero : goal.returns-then-not-all_zero
returns-then-not-all_zero c =
    let t = c.args.table.now in
    let l = c.loop-rest in
    let z = last t l.rest l.invariant.lies (omega arith) c.all_zero.result
    (c.all_zero.ensures ∙ ap all_zero (tail l.rest.rows.at t)) in
    ap (λ (b : Bool). cond b (Some l.rest.rows.at) None) (sym c.if-not-all_zero.true)
    ∙ z ∙ l.invariant.tells

pub returns : goal.returns
returns c =
    let t = c.args.table.now in
    let l = c.loop-rest in
    let z = last t l.rest l.invariant.lies (omega arith) c.all_zero.result
    (c.all_zero.ensures ∙ ap all_zero (tail l.rest.rows.at t)) in
    ap (λ (b : Bool). cond b (Some l.rest.rows.at) None) (sym c.if-not-all_zero.false)
    ∙ z ∙ l.invariant.tells
