-- The step of a clone: what its places tell, and each return of `clone_within`. Assumes nothing.
use mathlib.Core.Path.{◌≡◌, sym, ap, ap₂, ◌∙◌}
use mathlib.Core.Bool.{Bool, true, false}
use mathlib.Core.List.{List, [], ◌∷◌, ◌++◌}
use Prim.Native.Nat.{ℕ, suc, ◌+◌, ◌-◌, ◌*◌, ◌≤◌, ◌<◌}
use native.Mathlib.Omega.{arith}
use borrow.Author.Tests.{leb-true, leb-false}
use lib.Dec.{leb}
use lib.ListN.{length, take, drop, replicate, length-append}
use Rattle.refusals.specs.Outcome.{gives, refuses}
use Rattle.journal_entry.specs.Entry.{journal_clone, first_limit, to_limit}
use Rattle.journal_entry.specs.Places.{part}
use Rattle.table_rows.specs.declared.Reach.TheVariants.{Under}
use Rattle.table_rows.specs.declared.Span.{Span}
use Rattle.key_map.specs.Keys.{begins}
use Rattle.table_rows.specs.Rows.{Row, forms, weight, ahead, met, behind, moved_all, made, stepped, keys_fit}
use Rattle.table_rows.specs.Table.{padded}
use Rattle.table_rows.specs.Places.{span_at}
use Rattle.replica_table.specs.Moves.{moves_fit, moved_forms}
use Rattle.key_map.proofs.Keys.{begins_told}
use Rattle.table_rows.proofs.Ascending.{AllKeys, where_told}
use Rattle.table_rows.proofs.Tables.{length_forms}
use Rattle.table_rows.proofs.Spans.{drop_met, later_within}
use Rattle.replica_table.proofs.Moving.{moved_are, fits_are, weight_moved, length_moved_all}
use Rattle.replica_table.proofs.Stepping.{Step, refused, answered, refuse_keys, refuse_room, accept}
use Rattle.replica_table.proofs.Stepping.{weight_stepped, length_stepped, Known, Spanned, spanned, new_table}

-- every row under `from` has at least its bytes
prefix_weighs : (from : List ℕ) (xs : List Row) → AllKeys (λ k. begins from k ≡ true) xs
    → length xs * length from ≤ weight xs
prefix_weighs from [] a = omega arith
prefix_weighs from (x ∷ xs) a =
    let e : length (from ++ drop (length from) x.key) ≡ length x.key =
    ap length (begins_told from x.key a.0) in
    let l = length-append from (drop (length from) x.key) in
    let ih = prefix_weighs from xs a.1 in
    let m : suc (length xs) * length from ≡ length from + length xs * length from = omega arith in
    omega arith

pub record CloneFacts (count : ℕ) (t from to : List ℕ) (rows : List Row) (used : ℕ) (s q : Span) : Type 0 where
  pub to_span : Spanned count t Under to rows used s
  pub from_span : Spanned count t Under from rows used q
  pub prefix : q.rows * length from ≤ q.end - q.at
  pub made_weight : weight (made rows (journal_clone from to))
      ≡ q.end - q.at - q.rows * length from + q.rows * length to
  pub made_length : length (made rows (journal_clone from to)) ≡ q.rows
  pub stepped_weight : weight (stepped rows (journal_clone from to))
      ≡ used - (s.end - s.at) + weight (made rows (journal_clone from to))
  pub moves : moves_fit t q.at q.rows (length from) (first_limit - length to)
      ≡ keys_fit (made rows (journal_clone from to))
  pub forms_are : moved_forms t q.at q.rows (length from) to ≡ forms (made rows (journal_clone from to))
  pub forms_long : length (moved_forms t q.at q.rows (length from) to) ≡ weight (made rows (journal_clone from to))

module _ (count : ℕ) (t w from to : List ℕ) (rows : List Row) (used : ℕ) (known : Known count t rows used)
    (s : Span) (found : s ≡ span_at Under to t count) (q : Span) (from_found : q ≡ span_at Under from t count)
    (long : length w ≡ length t) (fits : length from ≤ first_limit) (fits₂ : length to ≤ to_limit) where
  about : AllKeys (λ k. begins from k ≡ true) (met Under from rows)
  about = where_told (begins from) rows

  pub clone_facts : CloneFacts count t from to rows used s q
  clone_facts =
      let m : List Row = met Under from rows in
      let a : Spanned count t Under to rows used s = spanned count t rows used known Under to s found in
      let b : Spanned count t Under from rows used q = spanned count t rows used known Under from q from_found in
      let pad : List ℕ = replicate (length t - weight rows) 0 in
      let ba = b.at_is in
      let be = b.end_is in
      let br = b.rows_is in
      let bu = b.used_is in
      let bf = b.fits in
      let aa = a.at_is in
      let ae = a.end_is in
      let au = a.used_is in
      let pf : q.rows * length from ≡ length m * length from = ap (λ (n : ℕ). n * length from) br in
      let pt : q.rows * length to ≡ length m * length to = ap (λ (n : ℕ). n * length to) br in
      let pw : length m * length from ≤ weight m = prefix_weighs from m about in
      let wm = weight_moved from to m about in
      let ws = weight_stepped rows (journal_clone from to) in
      let forms_are : moved_forms t q.at q.rows (length from) to ≡ forms (moved_all from to m) =
      ap₂ (λ (i n : ℕ). moved_forms t i n (length from) to) ba br
      ∙ moved_are t from to m (behind Under from rows) (weight (ahead from rows)) pad (omega arith)
      (drop_met count t Under from rows known.bytes known.is)
      (later_within count t Under from rows known.bytes known.is) about in
      record {
        to_span = a;
        from_span = b;
        prefix = omega arith;
        made_weight = omega arith;
        made_length = length_moved_all from to m ∙ sym br;
        stepped_weight = omega arith;
        moves =
            ap₂ (λ (i n : ℕ). moves_fit t i n (length from) (first_limit - length to)) ba br
            ∙ fits_are t from to fits₂ m (behind Under from rows) (weight (ahead from rows)) pad (omega arith)
            (drop_met count t Under from rows known.bytes known.is)
            (later_within count t Under from rows known.bytes known.is) about;
        forms_are = forms_are;
        forms_long = ap length forms_are ∙ length_forms (moved_all from to m);
      }

  module _ (b : Bool) (moves_is : b ≡ moves_fit t q.at q.rows (length from) (first_limit - length to)) where
    pub clone_keys : b ≡ false → Step count t w (journal_clone from to) (refuses 20) t w
    clone_keys h =
        refused count t w (journal_clone from to) 20
        (refuse_keys count t w (journal_clone from to) rows known.is long fits fits₂
        (sym clone_facts.moves ∙ sym moves_is ∙ h))

    pub moves_told : b ≡ true → moves_fit t q.at q.rows (length from) (first_limit - length to) ≡ true
    moves_told h = sym moves_is ∙ h

    module _ (passed : b ≡ true) (d : Bool)
        (room_is : d ≡ leb (q.end - q.at - q.rows * length from + q.rows * length to)
        (length t - (used - (s.end - s.at)))) where
      keys_short : keys_fit (made rows (journal_clone from to)) ≡ true
      keys_short = sym clone_facts.moves ∙ moves_told passed

      pub clone_full : d ≡ false → Step count t w (journal_clone from to) (refuses 21) t w
      clone_full h =
          let f : CloneFacts count t from to rows used s q = clone_facts in
          let a = f.to_span in
          let over : length t - (used - (s.end - s.at))
          < q.end - q.at - q.rows * length from + q.rows * length to =
          leb-false _ _ (sym room_is ∙ h) in
          let mw = f.made_weight in
          let sw = f.stepped_weight in
          refused count t w (journal_clone from to) 21
          (refuse_room count t w (journal_clone from to) rows known.is long fits fits₂ keys_short (omega arith))

      pub room_told : d ≡ true → weight (stepped rows (journal_clone from to)) ≤ length t
      room_told h =
          let f : CloneFacts count t from to rows used s q = clone_facts in
          let a = f.to_span in
          let under : q.end - q.at - q.rows * length from + q.rows * length to
          ≤ length t - (used - (s.end - s.at)) =
          leb-true _ _ (sym room_is ∙ h) in
          let mw = f.made_weight in
          let sw = f.stepped_weight in
          omega arith

      pub clone_done : d ≡ true → (y z : List ℕ)
          → y ≡ padded (length t) (take s.at t
          ++ (moved_forms t q.at q.rows (length from) to ++ part t s.end used)) → z ≡ replicate (length w) 0
          → Step count t w (journal_clone from to) (gives (count - s.rows + q.rows)) y z
      unfolding stepped
      clone_done h y z y_is z_is =
          let f : CloneFacts count t from to rows used s q = clone_facts in
          let a = f.to_span in
          let ar = a.rows_is in
          let ac = a.counts in
          let ml = f.made_length in
          let ls = length_stepped rows (journal_clone from to) in
          answered count t w (journal_clone from to) (stepped rows (journal_clone from to))
          (accept count t w (journal_clone from to) rows known.is long fits fits₂ keys_short (room_told h))
          (count - s.rows + q.rows) y z (omega arith)
          (new_table count t rows used known Under to s found (made rows (journal_clone from to))
          (moved_forms t q.at q.rows (length from) to) y f.forms_are y_is)
          z_is

-- the new number of rows fits where the table's length does
pub count_fits : (count : ℕ) (t from to : List ℕ) (rows : List Row) (used : ℕ) (s q : Span)
    → CloneFacts count t from to rows used s q → length t < 18446744073709551616
    → count - s.rows + q.rows < 18446744073709551616
count_fits count t from to rows used s q f h =
    let a = f.to_span in
    let b = f.from_span in
    let b₁ = b.rows_is in
    let b₂ = b.counts in
    let b₃ = b.eight in
    let b₄ = b.fits in
    omega arith
