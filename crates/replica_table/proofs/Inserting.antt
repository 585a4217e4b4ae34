-- The step of an insert: each return of `insert_within`. Assumes nothing.
use mathlib.Core.Path.{◌≡◌, sym}
use mathlib.Core.Bool.{true}
use mathlib.Core.List.{List, [], ◌∷◌, ◌++◌, append-nil}
use Prim.Native.Nat.{ℕ, ◌+◌, ◌-◌, ◌≤◌, ◌<◌}
use native.Mathlib.Omega.{arith}
use borrow.Author.Tests.{le-leb}
use lib.ListN.{length, take, replicate}
use Rattle.refusals.specs.Outcome.{gives, refuses}
use Rattle.journal_entry.specs.Entry.{journal_insert, first_limit, value_limit, wire, wires}
use Rattle.journal_entry.specs.Places.{part}
use Rattle.table_rows.specs.declared.Reach.TheVariants.{Only}
use Rattle.table_rows.specs.declared.Span.{Span}
use Rattle.table_rows.specs.Rows.{Row, row_of, forms, weight, made, stepped, keys_fit}
use Rattle.table_rows.specs.Table.{padded}
use Rattle.table_rows.specs.Places.{span_at}
use Rattle.replica_table.proofs.Stepping.{Step, refused, answered, refuse_room, accept, weight_stepped}
use Rattle.replica_table.proofs.Stepping.{length_stepped, Known, Spanned, spanned, new_table}

one_form : (key value : List ℕ) → wire (journal_insert key value) ≡ forms (row_of key value ∷ [])
unfolding wires
one_form key value = sym (append-nil (wire (journal_insert key value)))

module _ (count : ℕ) (t w key value : List ℕ) (rows : List Row) (used : ℕ) (known : Known count t rows used)
    (s : Span) (found : s ≡ span_at Only key t count) (long : length w ≡ length t) (fits : length key ≤ first_limit)
    (fits₂ : length value ≤ value_limit) where
  key_fits : keys_fit (made rows (journal_insert key value)) ≡ true
  key_fits = rw (le-leb (length key) first_limit fits)

  weighs : weight (stepped rows (journal_insert key value)) ≡ used - (s.end - s.at) + (8 + length key + length value)
  weighs =
      let p : Spanned count t Only key rows used s = spanned count t rows used known Only key s found in
      let pa = p.at_is in
      let pe = p.end_is in
      let pu = p.used_is in
      let ws = weight_stepped rows (journal_insert key value) in
      omega arith

  pub insert_full : length t - (used - (s.end - s.at)) < 8 + length key + length value
      → Step count t w (journal_insert key value) (refuses 21) t w
  insert_full h =
      let p : Spanned count t Only key rows used s = spanned count t rows used known Only key s found in
      let ws = weighs in
      refused count t w (journal_insert key value) 21
      (refuse_room count t w (journal_insert key value) rows known.is long fits fits₂ key_fits (omega arith))

  pub insert_done : 8 + length key + length value ≤ length t - (used - (s.end - s.at)) → (y z : List ℕ)
      → y ≡ padded (length t) (take s.at t ++ (wire (journal_insert key value) ++ part t s.end used))
      → z ≡ replicate (length w) 0
      → Step count t w (journal_insert key value) (gives (count - s.rows + 1)) y z
  unfolding stepped
  insert_done h y z y_is z_is =
      let p : Spanned count t Only key rows used s = spanned count t rows used known Only key s found in
      let pa = p.at_is in
      let pe = p.end_is in
      let pu = p.used_is in
      let pf = p.fits in
      let pr = p.rows_is in
      let pc = p.counts in
      let ws = weighs in
      let ls = length_stepped rows (journal_insert key value) in
      answered count t w (journal_insert key value) (stepped rows (journal_insert key value))
      (accept count t w (journal_insert key value) rows known.is long fits fits₂ key_fits (omega arith))
      (count - s.rows + 1) y z (omega arith)
      (new_table count t rows used known Only key s found (row_of key value ∷ []) (wire (journal_insert key value)) y
      (one_form key value) y_is)
      z_is
