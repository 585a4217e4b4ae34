-- `clone_within` meets its contract: 20, 21, or the new table. Assumes nothing.
use mathlib.Core.Path.{sym, ap, ◌∙◌}
use Prim.Native.Nat.{ℕ}
use lib.ListN.{length, replicate}
use lib.Seq.{length-take-le}
use native.Mathlib.Omega.{arith}
use Rattle.table_rows.specs.Places.{rows_in}
use Rattle.table_rows.specs.declared.Reach.TheVariants.{Under}
use Rattle.replica_table.specs.Moves.{moved_forms}
use Rattle.replica_table.proofs.Putting.{put_new}
use Rattle.replica_table.proofs.Stepping.{known, found_zeros}
use Rattle.replica_table.proofs.Cloning.{CloneFacts, clone_facts, clone_keys, clone_full, room_told}
use Rattle.replica_table.proofs.Cloning.{clone_done, count_fits}
use Rattle.replica_table.proofs.clone_within.Goals as goal
use Rattle.replica_table.proofs.clone_within.Goals.{After-span_at-source}

-- the places of both prefixes as numbers
facts : (c : After-span_at-source)
    → let x = c.args in
    CloneFacts x.count x.table.now x.from.now x.to.now (rows_in x.count x.table.now) x.found.used x.found.span
    c.span_at-source.result
facts c =
    let x = c.args in
    let r = c.requires in
    clone_facts x.count x.table.now x.work.now x.from.now x.to.now (rows_in x.count x.table.now) x.found.used
    (known x.count x.table.now Under x.to.now x.found r.found) x.found.span r.found.span_is c.span_at-source.result
    c.span_at-source.ensures r.long r.first_fits r.second_fits

pub returns-then-not-fits : goal.returns-then-not-fits
returns-then-not-fits c =
    let x = c.args in
    let r = c.requires in
    let told = clone_keys x.count x.table.now x.work.now x.from.now x.to.now (rows_in x.count x.table.now) x.found.used
    (known x.count x.table.now Under x.to.now x.found r.found) x.found.span r.found.span_is c.span_at-source.result
    c.span_at-source.ensures r.long r.first_fits r.second_fits c.fits.result c.fits.ensures c.if-not-fits.true in
    record { value = told.0; table_new = told.1.0; work_new = told.1.1 }

pub overflow_sub-kept : goal.overflow_sub-kept
overflow_sub-kept c = omega (arith, (facts (goal.at.overflow_sub-kept c).After-span_at-source).to_span)

pub overflow_sub-kept-2 : goal.overflow_sub-kept-2
overflow_sub-kept-2 c = omega (arith, (facts (goal.at.overflow_sub-kept-2 c).After-span_at-source).to_span)

pub overflow_sub-stay : goal.overflow_sub-stay
overflow_sub-stay c = omega (arith, (facts (goal.at.overflow_sub-stay c).After-span_at-source).from_span)

pub overflow_mul-stay : goal.overflow_mul-stay
overflow_mul-stay c =
    let f = facts (goal.at.overflow_mul-stay c).After-span_at-source in
    record { fits = omega (arith, f.from_span, f.prefix) }

pub overflow_sub-stay-2 : goal.overflow_sub-stay-2
overflow_sub-stay-2 c =
    let f = facts (goal.at.overflow_sub-stay-2 c).After-span_at-source in omega (arith, f.from_span, f.prefix)

pub overflow_sub-table : goal.overflow_sub-table
overflow_sub-table c = omega (arith, (facts (goal.at.overflow_sub-table c).After-span_at-source).to_span)

pub returns-then-not-room_for : goal.returns-then-not-room_for
returns-then-not-room_for c =
    let x = c.args in
    let r = c.requires in
    let told = clone_full x.count x.table.now x.work.now x.from.now x.to.now (rows_in x.count x.table.now) x.found.used
    (known x.count x.table.now Under x.to.now x.found r.found) x.found.span r.found.span_is c.span_at-source.result
    c.span_at-source.ensures r.long r.first_fits r.second_fits c.fits.result c.fits.ensures c.if-not-fits.false
    c.room_for.result c.room_for.ensures c.if-not-room_for.true in
    record { value = told.0; table_new = told.1.0; work_new = told.1.1 }

pub slice_bounds-put_bytes-end : goal.slice_bounds-put_bytes-end
slice_bounds-put_bytes-end c =
    omega (arith, (facts (goal.at.slice_bounds-put_bytes-end c).After-span_at-source).to_span)

pub put-behind-requires : goal.put-behind-requires
put-behind-requires c =
    let x = c.args in
    let r = c.requires in
    let f = facts (goal.at.put-behind-requires c).After-span_at-source in
    let fits =
    room_told x.count x.table.now x.work.now x.from.now x.to.now (rows_in x.count x.table.now) x.found.used
    (known x.count x.table.now Under x.to.now x.found r.found) x.found.span r.found.span_is c.span_at-source.result
    c.span_at-source.ensures r.long r.first_fits r.second_fits c.fits.result c.fits.ensures c.if-not-fits.false
    c.room_for.result c.room_for.ensures c.if-not-room_for.false in
    let long = length-take-le x.found.span.at x.table.now (omega (arith, f.to_span)) in (
      r.second_fits,
      sym c.fits.ensures ∙ c.if-not-fits.false,
      omega (arith, f.to_span, f.forms_long, f.stepped_weight, fits, long, c.put_bytes-moved_at.ensures.value, r.long),
    )

pub settle-requires : goal.settle-requires
settle-requires c =
    let x = c.args in
    let r = c.requires in
    let f = facts (goal.at.settle-requires c).After-span_at-source in
    let fits =
    room_told x.count x.table.now x.work.now x.from.now x.to.now (rows_in x.count x.table.now) x.found.used
    (known x.count x.table.now Under x.to.now x.found r.found) x.found.span r.found.span_is c.span_at-source.result
    c.span_at-source.ensures r.long r.first_fits r.second_fits c.fits.result c.fits.ensures c.if-not-fits.false
    c.room_for.result c.room_for.ensures c.if-not-room_for.false in
    let long = length-take-le x.found.span.at x.table.now (omega (arith, f.to_span)) in (
      omega (arith, r.long),
      omega (arith, f.to_span),
      omega (arith, f.to_span),
      omega (
        arith,
        f.to_span,
        f.forms_long,
        f.stepped_weight,
        fits,
        long,
        c.put_bytes-moved_at.ensures.value,
        c.put-behind.ensures.value,
        r.long,
      ),
      found_zeros c.args.count c.args.table.now Under c.args.to.now c.args.found c.requires.found,
    )

pub overflow_sub-result : goal.overflow_sub-result
overflow_sub-result c = omega (arith, (facts (goal.at.overflow_sub-result c).After-span_at-source).to_span)

pub overflow_add-result : goal.overflow_add-result
overflow_add-result c =
    let x = c.args in
    record {
      fits = count_fits x.count x.table.now x.from.now x.to.now (rows_in x.count x.table.now) x.found.used x.found.span
          c.span_at-source.result (facts (goal.at.overflow_add-result c).After-span_at-source) (omega arith);
    }

pub returns : goal.returns
returns c =
    let x = c.args in
    let r = c.requires in
    let f = facts (goal.at.returns c).After-span_at-source in
    let fits =
    room_told x.count x.table.now x.work.now x.from.now x.to.now (rows_in x.count x.table.now) x.found.used
    (known x.count x.table.now Under x.to.now x.found r.found) x.found.span r.found.span_is c.span_at-source.result
    c.span_at-source.ensures r.long r.first_fits r.second_fits c.fits.result c.fits.ensures c.if-not-fits.false
    c.room_for.result c.room_for.ensures c.if-not-room_for.false in
    let long = length-take-le x.found.span.at x.table.now (omega (arith, f.to_span)) in
    let told = clone_done x.count x.table.now x.work.now x.from.now x.to.now (rows_in x.count x.table.now) x.found.used
    (known x.count x.table.now Under x.to.now x.found r.found) x.found.span r.found.span_is c.span_at-source.result
    c.span_at-source.ensures r.long r.first_fits r.second_fits c.fits.result c.fits.ensures c.if-not-fits.false
    c.room_for.result c.room_for.ensures c.if-not-room_for.false c.settle.new.table c.settle.new.work
    (put_new x.table.now x.work.now
    (moved_forms x.table.now c.span_at-source.result.at c.span_at-source.result.rows (length x.from.now) x.to.now) _ _ _
    x.found.span.at x.found.span.end x.found.used _ _ c.put_bytes-moved_at.ensures.value c.put-behind.ensures.value
    (omega (arith, f.to_span, f.forms_long, f.stepped_weight, fits, long, c.put_bytes-moved_at.ensures.value, r.long))
    c.put_bytes-moved_at.ensures.dst_new c.put-behind.ensures.work_new c.settle.ensures.table_new)
    (c.settle.ensures.work_new ∙ ap (λ (n : ℕ). replicate n 0) (omega arith)) in
    record { value = told.0; table_new = told.1.0; work_new = told.1.1 }
