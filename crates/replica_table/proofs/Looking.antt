-- What the places found tell: lookup's answer, and whether rows can be moved. Assumes nothing.
use mathlib.Core.Path.{◌≡◌, sym, ap, ◌∙◌}
use mathlib.Core.Bool.{Bool, true, false, ◌&&◌}
use Rattle.std.specs.Prelude.{Option, None, Some}
use mathlib.Core.List.{List}
use Prim.Native.Nat.{ℕ, suc, ◌+◌, ◌-◌, ◌≤◌, ◌<◌}
use native.Mathlib.Omega.{arith}
use borrow.Author.Tests.{le-leb, lt-leb}
use lib.Dec.{leb}
use lib.ListN.{length}
use Rattle.words.proofs.Slices.{Bytes}
use Rattle.refusals.specs.Outcome.{gives, refuses}
use Rattle.table_rows.specs.declared.Reach.TheVariants.{Only}
use Rattle.journal_entry.specs.declared.EntryPlace.{EntryPlace}
use Rattle.table_rows.specs.declared.Span.{Span}
use Rattle.table_rows.specs.Rows.{Row, weight, ahead, met}
use Rattle.table_rows.specs.Table.{table_rows}
use Rattle.table_rows.specs.Places.{row_at, case_row, span_of, span_at}
use Rattle.replica_table.specs.Moves.{moves_fit}
use Rattle.replica_table.specs.Calls.{lookup_call}
use Rattle.table_rows.proofs.Ascending.{sorted}
use Rattle.table_rows.proofs.Tables.{table_told}
use Rattle.table_rows.proofs.Spans.{Runs, runs, one_row, span_is}

-- lookup
module _ (count : ℕ) (t key : List ℕ) where
  pub look_refused : table_rows count t ≡ None → refuses 2 ≡ lookup_call count t key
  unfolding lookup_call
  look_refused e = rw e

  module _ (rows : List Row) (bytes : Bytes t) (e : table_rows count t ≡ Some rows) (s : Span)
      (found : s ≡ span_at Only key t count) where
    s_is : s ≡ span_of Only key rows
    s_is = found ∙ span_is count t Only key rows bytes e

    at_is : s.at ≡ weight (ahead key rows)
    at_is = ap (λ (x : Span). x.at) s_is

    end_is : s.end ≡ weight (ahead key rows) + weight (met Only key rows)
    end_is = ap (λ (x : Span). x.end) s_is

    rows_is : s.rows ≡ length (met Only key rows)
    rows_is = ap (λ (x : Span). x.rows) s_is

    pub look_absent : s.rows ≡ 0 → refuses 8 ≡ lookup_call count t key
    unfolding lookup_call
    look_absent n =
        one_row key rows (sorted rows (table_told count t rows e).ascending_is)
        (λ m l. rw (e, l))
        (λ v m l.
        let k : length (met Only key rows) ≡ 1 = ap length m in
        let r = rows_is in
        absurd (omega arith))

    pub look_bounds : (s.rows ≡ 0 → ⊥) → (s.at + 8 + length key ≤ s.end) × (s.end ≤ length t)
    look_bounds n =
        one_row key rows (sorted rows (table_told count t rows e).ascending_is)
        (λ m l. absurd (n (rows_is ∙ ap length m)))
        (λ v m l.
        let k : weight (met Only key rows) ≡ 8 + length key + length v + 0 = ap weight m in
        let a = at_is in
        let z = end_is in
        let r : Runs count t Only key rows = runs count t Only key rows bytes e in
        let w = r.weighs in
        let f = r.fits in
        (omega arith, omega arith))

    pub look_found : (s.rows ≡ 0 → ⊥)
        → gives (record { at = s.at + 8 + length key; len = s.end - (s.at + 8 + length key) })
        ≡ lookup_call count t key
    unfolding lookup_call
    look_found n =
        one_row key rows (sorted rows (table_told count t rows e).ascending_is)
        (λ m l. absurd (n (rows_is ∙ ap length m)))
        (λ v m l.
        let k : weight (met Only key rows) ≡ 8 + length key + length v + 0 = ap weight m in
        let a : s.at + 8 + length key ≡ weight (ahead key rows) + 8 + length key =
        ap (λ (x : ℕ). x + 8 + length key) at_is in
        let z : s.end ≡ weight (ahead key rows) + weight (met Only key rows) = end_is in
        let long : s.end - (s.at + 8 + length key) ≡ length v = omega arith in
        rw (e, l) (λ i. gives (record { at = a i; len = long i })))

-- whether rows can be moved, row by row
module _ (t : List ℕ) (here n f room : ℕ) where
  abbrev fits_row : Option EntryPlace → Bool
  fits_row o =
      case_row o (λ p. leb f p.first_len && (leb (p.first_len - f) room && moves_fit t p.next n f room)) false

  fits_of : (o : Option EntryPlace) → o ≡ row_at t here → fits_row o ≡ moves_fit t here (suc n) f room
  unfolding moves_fit
  fits_of o e = ap fits_row e

module _ (t : List ℕ) (at rows here left f room : ℕ)
    (w : moves_fit t here left f room ≡ moves_fit t at rows f room) where
  module _ (some_left : 0 < left) (o : Option EntryPlace) (is : o ≡ row_at t here) where
    one : (b : Bool) → fits_row t here (left - 1) f room o ≡ b → b ≡ moves_fit t at rows f room
    one b e =
        let m : suc (left - 1) ≡ left = omega arith in
        sym e ∙ fits_of t here (left - 1) f room o is ∙ ap (λ (n : ℕ). moves_fit t here n f room) m ∙ w

    pub fit_unread : o ≡ None → false ≡ moves_fit t at rows f room
    fit_unread e = one false (ap (fits_row t here (left - 1) f room) e)

    module _ (p : EntryPlace) (e : o ≡ Some p) where
      pub fit_short : p.first_len < f → false ≡ moves_fit t at rows f room
      fit_short h = one false (ap (fits_row t here (left - 1) f room) e ∙ rw (lt-leb f p.first_len h))

      pub fit_long : f ≤ p.first_len → room < p.first_len - f → false ≡ moves_fit t at rows f room
      fit_long g h = one false (ap (fits_row t here (left - 1) f room) e
          ∙ rw (le-leb f p.first_len g, lt-leb (p.first_len - f) room h))

      pub fit_more : f ≤ p.first_len → p.first_len - f ≤ room
          → moves_fit t p.next (left - 1) f room ≡ moves_fit t at rows f room
      fit_more g h =
          one (moves_fit t p.next (left - 1) f room)
          (ap (fits_row t here (left - 1) f room) e ∙ rw (le-leb f p.first_len g, le-leb (p.first_len - f) room h))

  pub fit_ends : left ≡ 0 → true ≡ moves_fit t at rows f room
  unfolding moves_fit
  fit_ends e = sym (ap (λ (n : ℕ). moves_fit t here n f room) e) ∙ w
