-- A step, test by test, and what the new table is made of. Assumes nothing.
use mathlib.Core.Path.{◌≡◌, sym, ap, ap₂, ◌∙◌}
use mathlib.Core.Bool.{Bool, true, false}
use mathlib.Core.List.{List, ◌++◌}
use Rattle.std.specs.Prelude.{Option, None, Some}
use Prim.Native.Nat.{ℕ, ◌+◌, ◌-◌, ◌*◌, ◌≤◌, ◌<◌}
use native.Mathlib.Omega.{arith}
use borrow.Author.Tests.{eq-eqb, ne_eqb, le-leb, lt-leb}
use lib.Dec.{leb, eqb}
use lib.ListN.{length, take, drop, replicate, length-append}
use lib.Seq.{take_at, drop_at, drop-drop}
use Rattle.words.proofs.Slices.{Bytes}
use Rattle.refusals.specs.Outcome.{Outcome, gives, refuses, require◌else◌then◌, given◌else◌then◌, into, bytes_after}
use Rattle.journal_entry.specs.Entry.{JournalEntry, is_clone, first, second, first_limit}
use Rattle.journal_entry.specs.Entry.{second_limit}
use Rattle.journal_entry.specs.Places.{part}
use Rattle.journal_entry.proofs.Reading.{eight_each}
use Rattle.table_rows.specs.declared.Reach.{Reach}
use Rattle.table_rows.specs.declared.Span.{Span}
use Rattle.table_rows.specs.declared.Found.{Found}
use Rattle.table_rows.specs.Rows.{Row, inserts, forms, weight, reach_of, target, ahead, met, behind, made}
use Rattle.table_rows.specs.Rows.{stepped, keys_fit}
use Rattle.table_rows.specs.Table.{table_rows, padded, table_of}
use Rattle.table_rows.specs.Places.{span_of, span_at, rows_in, FoundIn}
use Rattle.replica_table.specs.Calls.{step_rows, step_call, rows_given, step_table, step_work}
use Rattle.table_rows.proofs.Tables.{forms_append, weight_append, length_forms, length_inserts, table_told}
use Rattle.table_rows.proofs.Spans.{Runs, runs, span_is}

-- the answer of a step, and what it leaves in both buffers
abbrev pub Step : (count : ℕ) (t w : List ℕ) (e : JournalEntry) (answer : Outcome ℕ) (y z : List ℕ) → Type 0
Step count t w e answer y z =
    (answer ≡ step_call count t w e) × ((y ≡ step_table count t w e) × (z ≡ step_work count t w e))

abbrev left_table : Outcome (List Row) → (t : List ℕ) → List ℕ
left_table o t = bytes_after o (table_of (length t) (rows_given o)) t

abbrev left_work : Outcome (List Row) → (w : List ℕ) → List ℕ
left_work o w = bytes_after o (replicate (length w) 0) w

module _ (count : ℕ) (t w : List ℕ) (e : JournalEntry) where
  pub refused : (n : ℕ) → step_rows count t w e ≡ refuses n → Step count t w e (refuses n) t w
  unfolding step_table step_work
  refused n is = (
    sym (ap (into length) is),
    (sym (ap (λ (o : Outcome (List Row)). left_table o t) is), sym (ap (λ (o : Outcome (List Row)). left_work o w) is)),
  )

  pub answered : (new : List Row) → step_rows count t w e ≡ gives new → (m : ℕ) (y z : List ℕ) → m ≡ length new
      → y ≡ table_of (length t) new → z ≡ replicate (length w) 0
      → Step count t w e (gives m) y z
  unfolding step_table step_work
  answered new is m y z em ey ez = (
    ap gives em ∙ sym (ap (into length) is),
    (
      ey ∙ sym (ap (λ (o : Outcome (List Row)). left_table o t) is),
      ez ∙ sym (ap (λ (o : Outcome (List Row)). left_work o w) is),
    ),
  )

  pub refuse_table : table_rows count t ≡ None → step_rows count t w e ≡ refuses 2
  unfolding step_rows
  refuse_table is = rw is

  module _ (rows : List Row) (is : table_rows count t ≡ Some rows) where
    pub refuse_work : (length w ≡ length t → ⊥) → step_rows count t w e ≡ refuses 2
    unfolding step_rows
    refuse_work h = rw (is, ne_eqb (length w) (length t) h)

    module _ (long : length w ≡ length t) where
      pub refuse_first : first_limit < length (first e) → step_rows count t w e ≡ refuses 3
      unfolding step_rows
      refuse_first h = rw (is, eq-eqb (length w) (length t) long, lt-leb (length (first e)) first_limit h)

      module _ (fits : length (first e) ≤ first_limit) where
        pub refuse_second : second_limit (is_clone e) < length (second e) → step_rows count t w e ≡ refuses 4
        unfolding step_rows
        refuse_second h =
            rw (
              is,
              eq-eqb (length w) (length t) long,
              le-leb (length (first e)) first_limit fits,
              lt-leb (length (second e)) (second_limit (is_clone e)) h,
            )

        module _ (fits₂ : length (second e) ≤ second_limit (is_clone e)) where
          -- 20 and 21 are left
          pub tested : step_rows count t w e
              ≡ (require keys_fit (made rows e) else 20 then require leb (weight (stepped rows e)) (length t)
              else 21 then gives (stepped rows e))
          unfolding step_rows
          tested =
              ap (λ (o : Option (List Row)).
              given o else 2 then λ rows.
              require eqb (length w) (length t) else 2 then
              require leb (length (first e)) first_limit else 3 then
              require leb (length (second e)) (second_limit (is_clone e)) else 4 then
              require keys_fit (made rows e) else 20 then
              require leb (weight (stepped rows e)) (length t) else 21 then
              gives (stepped rows e)) is
              ∙ ap (λ (b : Bool).
              require b else 2 then
              require leb (length (first e)) first_limit else 3 then
              require leb (length (second e)) (second_limit (is_clone e)) else 4 then
              require keys_fit (made rows e) else 20 then
              require leb (weight (stepped rows e)) (length t) else 21 then
              gives (stepped rows e)) (eq-eqb (length w) (length t) long)
              ∙ ap (λ (b : Bool).
              require b else 3 then
              require leb (length (second e)) (second_limit (is_clone e)) else 4 then
              require keys_fit (made rows e) else 20 then
              require leb (weight (stepped rows e)) (length t) else 21 then
              gives (stepped rows e)) (le-leb (length (first e)) first_limit fits)
              ∙ ap (λ (b : Bool).
              require b else 4 then
              require keys_fit (made rows e) else 20 then
              require leb (weight (stepped rows e)) (length t) else 21 then
              gives (stepped rows e)) (le-leb (length (second e)) (second_limit (is_clone e)) fits₂)

          pub refuse_keys : keys_fit (made rows e) ≡ false → step_rows count t w e ≡ refuses 20
          refuse_keys h = tested ∙ rw h

          pub refuse_room : keys_fit (made rows e) ≡ true → length t < weight (stepped rows e)
              → step_rows count t w e ≡ refuses 21
          refuse_room k h = tested ∙ rw (k, lt-leb (weight (stepped rows e)) (length t) h)

          pub accept : keys_fit (made rows e) ≡ true → weight (stepped rows e) ≤ length t
              → step_rows count t w e ≡ gives (stepped rows e)
          accept k h = tested ∙ rw (k, le-leb (weight (stepped rows e)) (length t) h)

-- what the new rows weigh, and how many they are
module _ (rows : List Row) (e : JournalEntry) where
  pub weight_stepped : weight (stepped rows e)
      ≡ weight (ahead (target e) rows) + (weight (made rows e) + weight (behind (reach_of e) (target e) rows))
  unfolding stepped
  weight_stepped =
      weight_append (ahead (target e) rows) (made rows e ++ behind (reach_of e) (target e) rows)
      ∙ ap (λ (n : ℕ). weight (ahead (target e) rows) + n)
      (weight_append (made rows e) (behind (reach_of e) (target e) rows))

  pub length_stepped : length (stepped rows e)
      ≡ length (ahead (target e) rows) + (length (made rows e) + length (behind (reach_of e) (target e) rows))
  unfolding stepped
  length_stepped =
      length-append (ahead (target e) rows) (made rows e ++ behind (reach_of e) (target e) rows)
      ∙ ap (λ (n : ℕ). length (ahead (target e) rows) + n)
      (length-append (made rows e) (behind (reach_of e) (target e) rows))

-- what a step knows of its table once that is tested
pub record Known (count : ℕ) (t : List ℕ) (rows : List Row) (used : ℕ) : Type 0 where
  pub bytes : Bytes t
  pub is : table_rows count t ≡ Some rows
  pub used_is : used ≡ weight rows

pub known : (count : ℕ) (t : List ℕ) (reach : Reach) (key : List ℕ) (found : Found) → FoundIn count t reach key found
    → Known count t (rows_in count t) found.used
known count t reach key found f = record { bytes = f.bytes; is = f.is; used_is = f.used_is }

-- what a span tells, as numbers
pub record Spanned (count : ℕ) (t : List ℕ) (reach : Reach) (key : List ℕ) (rows : List Row) (used : ℕ)
    (s : Span) : Type 0 where
  pub at_is : s.at ≡ weight (ahead key rows)
  pub end_is : s.end ≡ weight (ahead key rows) + weight (met reach key rows)
  pub rows_is : s.rows ≡ length (met reach key rows)
  pub used_is : used ≡ weight (ahead key rows) + (weight (met reach key rows) + weight (behind reach key rows))
  pub fits : used ≤ length t
  pub counts : count ≡ length (ahead key rows) + (length (met reach key rows) + length (behind reach key rows))
  pub eight : 8 * count ≤ used

module _ (count : ℕ) (t : List ℕ) (rows : List Row) (used : ℕ) (known : Known count t rows used) (reach : Reach)
    (key : List ℕ)
    (s : Span) (found : s ≡ span_at reach key t count) where
  s_is : s ≡ span_of reach key rows
  s_is = found ∙ span_is count t reach key rows known.bytes known.is

  its_runs : Runs count t reach key rows
  its_runs = runs count t reach key rows known.bytes known.is

  pub spanned : Spanned count t reach key rows used s
  spanned =
      let r : Runs count t reach key rows = its_runs in
      let ew = r.weighs in
      let ef = r.fits in
      let ec : length rows ≡ count = (table_told count t rows known.is).count_is in
      let e8 : 8 * length (inserts rows) ≤ weight rows = eight_each (inserts rows) in
      let el = length_inserts rows in
      record {
        at_is = ap (λ (x : Span). x.at) s_is;
        end_is = ap (λ (x : Span). x.end) s_is;
        rows_is = ap (λ (x : Span). x.rows) s_is;
        used_is = known.used_is ∙ ew;
        fits = rw known.used_is ef;
        counts = r.counts;
        eight = let u = known.used_is in omega arith;
      }

  front_is : take s.at t ≡ forms (ahead key rows)
  front_is =
      let r : Runs count t reach key rows = its_runs in
      ap₂ take (ap (λ (x : Span). x.at) s_is) r.bytes_are
      ∙ take_at (forms (ahead key rows)) _ (weight (ahead key rows)) (length_forms (ahead key rows))

  back_is : part t s.end used ≡ forms (behind reach key rows)
  back_is =
      let r : Runs count t reach key rows = its_runs in
      let p : Spanned count t reach key rows used s = spanned in
      let pe = p.end_is in
      let pu = p.used_is in
      let a : List Row = ahead key rows in
      let m : List Row = met reach key rows in
      let b : List Row = behind reach key rows in
      let pad : List ℕ = replicate (length t - weight rows) 0 in
      let n : used - s.end ≡ weight b = omega arith in
      let dropped : drop (weight a + weight m) t ≡ forms b ++ pad =
      sym (drop-drop (weight m) (weight a) t)
      ∙ ap (λ (l : List ℕ). drop (weight m) (drop (weight a) l)) r.bytes_are
      ∙ ap (drop (weight m)) (drop_at (forms a) (forms m ++ (forms b ++ pad)) (weight a) (length_forms a))
      ∙ drop_at (forms m) (forms b ++ pad) (weight m) (length_forms m) in
      ap₂ take n (ap (λ (k : ℕ). drop k t) p.end_is ∙ dropped) ∙ take_at (forms b) pad (weight b) (length_forms b)

  -- THE NEW TABLE: the first run and the last are bytes of the old one
  module _ (new : List Row) (middle y : List ℕ) (middle_is : middle ≡ forms new)
      (y_is : y ≡ padded (length t) (take s.at t ++ (middle ++ part t s.end used))) where
    pub new_table : y ≡ table_of (length t) (ahead key rows ++ (new ++ behind reach key rows))
    unfolding table_of
    new_table =
        let a : List Row = ahead key rows in
        let b : List Row = behind reach key rows in
        let formed : take s.at t ++ (middle ++ part t s.end used) ≡ forms (a ++ (new ++ b)) =
        ap₂ ◌++◌ front_is (ap₂ ◌++◌ middle_is back_is)
        ∙ sym (forms_append a (new ++ b) ∙ ap (λ (l : List ℕ). forms a ++ l) (forms_append new b)) in
        y_is ∙ ap (padded (length t)) formed
        ∙ ap (λ (k : ℕ). forms (a ++ (new ++ b)) ++ replicate (length t - k) 0) (length_forms (a ++ (new ++ b)))

pub found_spanned : (count : ℕ) (t : List ℕ) (reach : Reach) (key : List ℕ) (found : Found)
    → FoundIn count t reach key found
    → Spanned count t reach key (rows_in count t) found.used found.span
found_spanned count t reach key found f =
    spanned count t (rows_in count t) found.used (known count t reach key found f) reach key found.span f.span_is

-- behind a table's rows are zeros
pub found_zeros : (count : ℕ) (t : List ℕ) (reach : Reach) (key : List ℕ) (found : Found)
    → FoundIn count t reach key found → drop found.used t ≡ replicate (length t - found.used) 0
unfolding table_of
found_zeros count t reach key found f =
    let rows : List Row = rows_in count t in
    let pad : List ℕ = replicate (length t - weight rows) 0 in
    ap₂ drop f.used_is ((table_told count t rows f.is).bytes_are f.bytes)
    ∙ drop_at (forms rows) pad (weight rows) (length_forms rows)
    ∙ ap (λ (n : ℕ). replicate (length t - n) 0) (sym f.used_is)
