-- `insert_within` meets its contract: 21, or the new table. Assumes nothing.
use mathlib.Core.Path.{ap, ◌∙◌}
use Prim.Native.Nat.{ℕ}
use lib.ListN.{replicate}
use lib.Seq.{length-take-le}
use native.Mathlib.Omega.{arith}
use Rattle.journal_entry.specs.Entry.{journal_insert, wire}
use Rattle.journal_entry.proofs.Reading.{length_wire}
use Rattle.replica_table.proofs.Putting.{put_new}
use Rattle.table_rows.specs.Places.{rows_in}
use Rattle.table_rows.specs.declared.Reach.TheVariants.{Only}
use Rattle.replica_table.proofs.Stepping.{Spanned, known, found_spanned, found_zeros}
use Rattle.replica_table.proofs.Inserting.{insert_full, insert_done}
use Rattle.replica_table.proofs.insert_within.Goals as goal
use Rattle.replica_table.proofs.insert_within.Goals.{Start}

-- the places as numbers
facts : (c : Start)
    → let x = c.args in
    Spanned x.count x.table.now Only x.key.now (rows_in x.count x.table.now) x.found.used x.found.span
facts c =
    let x = c.args in found_spanned x.count x.table.now Only x.key.now x.found c.requires.found

pub overflow_sub-kept : goal.overflow_sub-kept
overflow_sub-kept c = omega (arith, facts (goal.at.overflow_sub-kept c).Start)

pub overflow_sub-kept-2 : goal.overflow_sub-kept-2
overflow_sub-kept-2 c = omega (arith, facts (goal.at.overflow_sub-kept-2 c).Start)

pub overflow_sub-table : goal.overflow_sub-table
overflow_sub-table c = omega (arith, facts (goal.at.overflow_sub-table c).Start)

pub returns-then-table-kept : goal.returns-then-table-kept
returns-then-table-kept c =
    let x = c.args in
    let r = c.requires in
    let told =
    insert_full x.count x.table.now x.work.now x.key.now x.value.now (rows_in x.count x.table.now) x.found.used
    (known x.count x.table.now Only x.key.now x.found r.found) x.found.span r.found.span_is r.long r.first_fits
    r.second_fits c.if-table-kept.true in
    record { value = told.0; table_new = told.1.0; work_new = told.1.1 }

pub slice_bounds-put_bytes-end : goal.slice_bounds-put_bytes-end
slice_bounds-put_bytes-end c = omega (arith, facts (goal.at.slice_bounds-put_bytes-end c).Start)

pub put_row-behind-requires : goal.put_row-behind-requires
put_row-behind-requires c =
    let h = facts (goal.at.put_row-behind-requires c).Start in
    let long = length-take-le c.args.found.span.at c.args.table.now (omega (arith, h)) in (
      omega (arith, h, long, c.put_bytes-row_at.ensures.value, c.requires.long),
      c.requires.first_fits,
      c.requires.second_fits,
    )

pub settle-requires : goal.settle-requires
settle-requires c =
    let h = facts (goal.at.settle-requires c).Start in
    let long = length-take-le c.args.found.span.at c.args.table.now (omega (arith, h)) in (
      omega (arith, c.requires.long),
      omega (arith, h),
      omega (arith, h),
      omega (arith, h, long, c.put_bytes-row_at.ensures.value, c.requires.long),
      found_zeros c.args.count c.args.table.now Only c.args.key.now c.args.found c.requires.found,
    )

pub overflow_sub-result : goal.overflow_sub-result
overflow_sub-result c = omega (arith, facts (goal.at.overflow_sub-result c).Start)

pub overflow_add-result : goal.overflow_add-result
overflow_add-result c = record { fits = omega (arith, facts (goal.at.overflow_add-result c).Start) }

pub returns : goal.returns
returns c =
    let x = c.args in
    let r = c.requires in
    let told =
    insert_done x.count x.table.now x.work.now x.key.now x.value.now (rows_in x.count x.table.now) x.found.used
    (known x.count x.table.now Only x.key.now x.found r.found) x.found.span r.found.span_is r.long r.first_fits
    r.second_fits c.if-table-kept.false c.settle.new.table c.settle.new.work
    (put_new x.table.now x.work.now (wire (journal_insert x.key.now x.value.now)) _ _ _ x.found.span.at x.found.span.end
    x.found.used _ _ c.put_bytes-row_at.ensures.value
    (omega (arith, length_wire (journal_insert x.key.now x.value.now), c.put_row-behind.ensures.value))
    (omega (
      arith,
      facts (goal.at.returns c).Start,
      length_wire (journal_insert x.key.now x.value.now),
      c.put_bytes-row_at.ensures.value,
      r.long,
      length-take-le x.found.span.at x.table.now (omega (arith, facts (goal.at.returns c).Start)),
    ))
    c.put_bytes-row_at.ensures.dst_new
    c.put_row-behind.ensures.dst_new c.settle.ensures.table_new)
    (c.settle.ensures.work_new ∙ ap (λ (n : ℕ). replicate n 0) (omega arith)) in
    record { value = told.0; table_new = told.1.0; work_new = told.1.1 }
