-- `behind_passed` meets its contract: a row that follows and passes leaves the same to be told. Assumes nothing.
use mathlib.Core.Path.{◌≡◌, sym, ap, ◌∙◌, subst}
use Rattle.std.specs.Prelude.{None, MatchOption}
use native.Mathlib.Omega.{arith}
use Rattle.table_rows.specs.Places.{passing}
use Rattle.table_rows.specs.Rest.{taken, PassedTo}
use Rattle.table_rows.proofs.RowPlaces.{key_inside}
use Rattle.table_rows.proofs.Rests.{none_follows, row_follows}
use Rattle.table_rows.proofs.Skipping.{skip_ends, skip_stops, skip_more}
use Rattle.table_rows.proofs.rest.Rest.behind_passed.Goals as goal

pub returns-in_err-row : goal.returns-in_err-row
returns-in_err-row c =
    let t = c.args.table.now in
    let l = c.loop-rest in
    subst (λ o. MatchOption o (None ≡ taken t c.args.self)
    (PassedTo t (passing c.args.pass c.args.key.now) c.args.self))
    (sym c.from_residual.ensures)
    (none_follows t l.rest l.invariant.lies c.loop-rest-test.true (sym c.in_err-row.was ∙ c.row.ensures)
    ∙ l.invariant.tells)

pub key_of-requires : goal.key_of-requires
key_of-requires c =
    let t = c.args.table.now in
    let l = c.loop-rest in
    let f = row_follows t l.rest l.invariant.lies c.loop-rest-test.true c.in_ok-row.row
    (sym c.in_ok-row.was ∙ c.row.ensures) in
    key_inside t l.rest.rows.at c.in_ok-row.row f.is_row

pub returns-then-not-takes : goal.returns-then-not-takes
returns-then-not-takes c =
    let t = c.args.table.now in
    let l = c.loop-rest in
    let f = row_follows t l.rest l.invariant.lies c.loop-rest-test.true c.in_ok-row.row
    (sym c.in_ok-row.was ∙ c.row.ensures) in
    let test = passing c.args.pass c.args.key.now in
    record {
      lies = l.invariant.lies;
      tells = l.invariant.tells;
      rows_are =
          skip_stops test t l.rest.rows c.loop-rest-test.true c.in_ok-row.row (sym f.is_row)
          (sym (c.takes.ensures ∙ ap test c.key_of.ensures) ∙ c.if-not-takes.true)
          ∙ l.invariant.skips;
    }

pub loop-rest-preserved : goal.loop-rest-preserved
loop-rest-preserved c =
    let t = c.args.table.now in
    let l = c.loop-rest in
    let f = row_follows t l.rest l.invariant.lies c.loop-rest-test.true c.in_ok-row.row
    (sym c.in_ok-row.was ∙ c.row.ensures) in
    let test = passing c.args.pass c.args.key.now in
    rw c.behind-rest.ensures
    (record {
      lies = f.lies;
      tells = f.tells ∙ l.invariant.tells;
      skips =
          skip_more test t l.rest.rows c.loop-rest-test.true c.in_ok-row.row (sym f.is_row)
          (sym (c.takes.ensures ∙ ap test c.key_of.ensures) ∙ c.if-not-takes.false)
          ∙ l.invariant.skips;
    })

pub returns : goal.returns
returns c =
    let t = c.args.table.now in
    let l = c.loop-rest in
    record {
      lies = l.invariant.lies;
      tells = l.invariant.tells;
      rows_are = skip_ends (passing c.args.pass c.args.key.now) t l.rest.rows (omega arith) ∙ l.invariant.skips;
    }
