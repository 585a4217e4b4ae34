-- `skip_rows` meets its contract: what is left behind a row that passes is skipped as the whole is. Assumes nothing.
use mathlib.Core.Path.{sym, ap, ◌∙◌}
use native.Mathlib.Omega.{arith}
use Rattle.table_rows.specs.Places.{passing}
use Rattle.table_rows.proofs.RowPlaces.{key_inside}
use Rattle.table_rows.proofs.Skipping.{skip_ends, skip_unread, skip_stops, skip_more}
use Rattle.table_rows.proofs.skip_rows.Goals as goal

pub returns-in_default : goal.returns-in_default
returns-in_default c =
    let l = c.loop-rest in
    skip_unread (passing c.args.pass c.args.key.now) c.args.table.now l.rest c.loop-rest-test.true
    (sym c.in_default.is ∙ c.row_at.ensures)
    ∙ l.invariant

pub key_of-requires : goal.key_of-requires
key_of-requires c =
    key_inside c.args.table.now c.loop-rest.rest.at c.in-Some.row (sym c.row_at.ensures ∙ c.in-Some.is)

pub returns-then-not-takes : goal.returns-then-not-takes
returns-then-not-takes c =
    let l = c.loop-rest in
    let test = passing c.args.pass c.args.key.now in
    skip_stops test c.args.table.now l.rest c.loop-rest-test.true c.in-Some.row (sym c.in-Some.is ∙ c.row_at.ensures)
    (sym (c.takes.ensures ∙ ap test c.key_of.ensures) ∙ c.if-not-takes.true)
    ∙ l.invariant

pub loop-rest-preserved : goal.loop-rest-preserved
loop-rest-preserved c =
    let l = c.loop-rest in
    let test = passing c.args.pass c.args.key.now in
    skip_more test c.args.table.now l.rest c.loop-rest-test.true c.in-Some.row (sym c.in-Some.is ∙ c.row_at.ensures)
    (sym (c.takes.ensures ∙ ap test c.key_of.ensures) ∙ c.if-not-takes.false)
    ∙ l.invariant

pub returns : goal.returns
returns c =
    let l = c.loop-rest in
    skip_ends (passing c.args.pass c.args.key.now) c.args.table.now l.rest (omega arith) ∙ l.invariant
