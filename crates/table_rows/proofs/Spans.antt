-- The rows that a step is about, found in a table's bytes: skipping passes the rows before them, then them. Assumes
-- nothing.
use mathlib.Core.Path.{◌≡◌, refl, sym, ap, ap₂, ◌∙◌, subst}
use mathlib.Core.Bool.{Bool, true, false, cond}
use mathlib.Core.List.{List, [], ◌∷◌, ◌++◌, append_assoc}
use Rattle.std.specs.Prelude.{Option, None, Some}
use Prim.Native.Nat.{ℕ, zero, suc, ◌+◌, ◌-◌, ◌≤◌}
use native.Mathlib.Omega.{arith}
use lib.ListN.{length, drop, replicate, length-append}
use lib.Seq.{drop_at}
use Rattle.words.proofs.All.{all_append, all_split}
use Rattle.words.proofs.Slices.{Bytes}
use Rattle.journal_entry.specs.Entry.{Within, AllWithin, wire, wires}
use Rattle.table_rows.specs.declared.Reach.{Reach}
use Rattle.table_rows.specs.declared.Reach.TheVariants.{Only}
use Rattle.journal_entry.specs.declared.EntryPlace.{EntryPlace}
use Rattle.table_rows.specs.declared.RowsFrom.{RowsFrom}
use Rattle.key_map.specs.Keys.{before, same}
use Rattle.table_rows.specs.Rows.{Row, row_of, insert_of, inserts, forms, weight, lookup, meets, ahead, met}
use Rattle.table_rows.specs.Rows.{behind}
use Rattle.table_rows.specs.Table.{table_rows, table_of}
use Rattle.table_rows.specs.Places.{row_at, key_in, case_row, rows_from, skip_where, span_of}
use Rattle.table_rows.specs.Places.{span_at, between, behind_first}
use Rattle.key_map.proofs.Keys.{clash, same_refl, same_told, before_never, before_not_back}
use Rattle.table_rows.proofs.Reaches.{met_not_before}
use Rattle.table_rows.proofs.Lookups.{lookup_where}
use Rattle.table_rows.proofs.Ascending.{AllKeys, all_keys, Sorted, sorted, where_told, where_sorted}
use Rattle.table_rows.proofs.Ascending.{behind_told}
use Rattle.table_rows.proofs.Together.{together}
use Rattle.table_rows.proofs.Tables.{inserts_append, forms_append, weight_append, length_forms, IsTable}
use Rattle.table_rows.proofs.Tables.{table_told}
use Rattle.table_rows.proofs.RowPlaces.{row_here}

forms_cons : (r : Row) (rows : List Row) (rest : List ℕ)
    → forms (r ∷ rows) ++ rest ≡ wire (insert_of r) ++ (forms rows ++ rest)
unfolding wires
forms_cons r rows rest = append_assoc (wire (insert_of r)) (forms rows) rest

-- a first row that passes is skipped, one that does not is not
skip_first : (test : List ℕ → Bool) (t : List ℕ) (at n : ℕ) (p : EntryPlace) (k : List ℕ) (b : Bool)
    → row_at t at ≡ Some p → key_in t p ≡ k → test k ≡ b
    → skip_where test t at (suc n) ≡ cond b (skip_where test t p.next n) (rows_from at (suc n))
unfolding skip_where
skip_first test t at n p k b e f g = rw (e, f, g)

skip_none : (test : List ℕ → Bool) (t : List ℕ) (at : ℕ) → skip_where test t at 0 ≡ rows_from at 0
unfolding skip_where
skip_none test t at = refl

pub skip_rows : (test : List ℕ → Bool) (t : List ℕ) (xs ys : List Row) (at : ℕ) (rest : List ℕ) → at ≤ length t
    → drop at t ≡ forms (xs ++ ys) ++ rest
    → AllWithin (inserts (xs ++ ys)) → AllKeys (λ k. test k ≡ true) xs → AllKeys (λ k. test k ≡ false) ys
    → skip_where test t at (length (xs ++ ys)) ≡ rows_from (at + weight xs) (length ys)
skip_rows test t [] [] at rest h e w a b = skip_none test t at ∙ ap (λ (n : ℕ). rows_from n 0) (omega arith)
skip_rows test t [] (y ∷ ys) at rest h e w a b =
    row_here t at y (forms ys ++ rest) h w.0 (e ∙ forms_cons y ys rest) λ p here.
    skip_first test t at (length ys) p y.key false here.found here.key_is b.0
    ∙ ap (λ (n : ℕ). rows_from n (suc (length ys))) (omega arith)
skip_rows test t (x ∷ xs) ys at rest h e w a b =
    row_here t at x (forms (xs ++ ys) ++ rest) h w.0 (e ∙ forms_cons x (xs ++ ys) rest) λ p here.
    let there = here.there in
    let kl = here.key_long in
    let vl = here.value_long in
    let next : p.next + weight xs ≡ at + weight (x ∷ xs) = omega arith in
    skip_first test t at (length (xs ++ ys)) p x.key true here.found here.key_is a.0
    ∙ skip_rows test t xs ys p.next rest there.inside here.behind_is w.1 a.1 b
    ∙ ap (λ (n : ℕ). rows_from n (length ys)) next

-- a table's bytes, run by run
pub record Runs (count : ℕ) (t : List ℕ) (reach : Reach) (key : List ℕ) (rows : List Row) : Type 0 where
  pub rows_are : rows ≡ ahead key rows ++ (met reach key rows ++ behind reach key rows)
  pub bytes_are : t ≡ forms (ahead key rows)
      ++ (forms (met reach key rows) ++ (forms (behind reach key rows) ++ replicate (length t - weight rows) 0))
  pub weighs : weight rows ≡ weight (ahead key rows) + (weight (met reach key rows) + weight (behind reach key rows))
  pub fits : weight rows ≤ length t
  pub counts : count ≡ length (ahead key rows) + (length (met reach key rows) + length (behind reach key rows))

pub runs : (count : ℕ) (t : List ℕ) (reach : Reach) (key : List ℕ) (rows : List Row) → Bytes t
    → table_rows count t ≡ Some rows → Runs count t reach key rows
unfolding table_of
runs count t reach key rows bytes e =
    let is : IsTable count t rows = table_told count t rows e in
    let a : List Row = ahead key rows in
    let m : List Row = met reach key rows in
    let b : List Row = behind reach key rows in
    let split : rows ≡ a ++ (m ++ b) = together reach key rows (sorted rows is.ascending_is) in
    let pad : List ℕ = replicate (length t - weight rows) 0 in
    let formed : forms rows ≡ forms a ++ (forms m ++ forms b) =
    ap forms split ∙ forms_append a (m ++ b) ∙ ap (λ (l : List ℕ). forms a ++ l) (forms_append m b) in
    record {
      rows_are = split;
      bytes_are =
          is.bytes_are bytes ∙ ap (λ (l : List ℕ). l ++ pad) formed
          ∙ append_assoc (forms a) (forms m ++ forms b) pad
          ∙ ap (λ (l : List ℕ). forms a ++ l) (append_assoc (forms m) (forms b) pad);
      weighs = ap weight split ∙ weight_append a (m ++ b) ∙ ap (λ (n : ℕ). weight a + n) (weight_append m b);
      fits = is.fits;
      counts = sym is.count_is ∙ ap length split ∙ length-append a (m ++ b)
          ∙ ap (λ (n : ℕ). length a + n) (length-append m b);
    }

-- WHERE THE ROWS LIE
module _ (count : ℕ) (t : List ℕ) (reach : Reach) (key : List ℕ) (rows : List Row) (bytes : Bytes t)
    (e : table_rows count t ≡ Some rows) where
  abbrev pub later : List Row
  later = met reach key rows ++ behind reach key rows

  split_within : AllWithin (inserts (ahead key rows ++ later))
  split_within = subst (λ (l : List Row). AllWithin (inserts l)) (runs count t reach key rows bytes e).rows_are
      (table_told count t rows e).within

  length_later : length later ≡ length (met reach key rows) + length (behind reach key rows)
  length_later = length-append (met reach key rows) (behind reach key rows)

  pub skip_ahead : skip_where (λ k. before k key) t 0 count
      ≡ rows_from (weight (ahead key rows)) (length (met reach key rows) + length (behind reach key rows))
  unfolding table_of
  skip_ahead =
      let is : IsTable count t rows = table_told count t rows e in
      let split = (runs count t reach key rows bytes e).rows_are in
      let pad : List ℕ = replicate (length t - weight rows) 0 in
      let bytes_are : t ≡ forms (ahead key rows ++ later) ++ pad =
      is.bytes_are bytes ∙ ap (λ (l : List Row). forms l ++ pad) split in
      let counted : count ≡ length (ahead key rows ++ later) = sym is.count_is ∙ ap length split in
      let zero_more : 0 + weight (ahead key rows) ≡ weight (ahead key rows) = omega arith in
      ap (skip_where (λ k. before k key) t 0) counted
      ∙ skip_rows (λ k. before k key) t (ahead key rows) later 0 pad (omega arith) bytes_are split_within
      (where_told (λ k. before k key) rows)
      (all_append (λ r. before r.key key ≡ false) (met reach key rows) (behind reach key rows)
      (all_keys (met reach key rows) (met_not_before reach key) (where_told (meets reach key) rows))
      (all_keys (behind reach key rows) (λ k q. before_not_back key k q.0) (behind_told reach key rows)))
      ∙ ap₂ rows_from zero_more length_later

  pub drop_met : drop (weight (ahead key rows)) t ≡ forms later ++ replicate (length t - weight rows) 0
  drop_met =
      let r : Runs count t reach key rows = runs count t reach key rows bytes e in
      let pad : List ℕ = replicate (length t - weight rows) 0 in
      let m : List Row = met reach key rows in
      let b : List Row = behind reach key rows in
      ap (drop (weight (ahead key rows))) r.bytes_are
      ∙ drop_at (forms (ahead key rows)) _ (weight (ahead key rows)) (length_forms (ahead key rows))
      ∙ sym (append_assoc (forms m) (forms b) pad)
      ∙ ap (λ (l : List ℕ). l ++ pad) (sym (forms_append m b))

  pub later_within : AllWithin (inserts later)
  later_within =
      (all_split Within (inserts (ahead key rows)) (inserts later)
      (subst AllWithin (inserts_append (ahead key rows) later) split_within)).1

  pub skip_met : skip_where (meets reach key) t (weight (ahead key rows))
      (length (met reach key rows) + length (behind reach key rows))
      ≡ rows_from (weight (ahead key rows) + weight (met reach key rows)) (length (behind reach key rows))
  skip_met =
      let r : Runs count t reach key rows = runs count t reach key rows bytes e in
      let pad : List ℕ = replicate (length t - weight rows) 0 in
      let weighs = r.weighs in
      let fits = r.fits in
      let m : List Row = met reach key rows in
      let b : List Row = behind reach key rows in
      ap (skip_where (meets reach key) t (weight (ahead key rows))) (sym length_later)
      ∙ skip_rows (meets reach key) t m b (weight (ahead key rows)) pad (omega arith) drop_met later_within
      (where_told (meets reach key) rows) (all_keys b (λ k q. q.1) (behind_told reach key rows))

-- One key: no row, or the one row of that key.
pub one_row : {C : Type 0} (key : List ℕ) (rows : List Row) → Sorted rows
    → (met Only key rows ≡ [] → lookup rows key ≡ None → C)
    → ((v : List ℕ) → met Only key rows ≡ row_of key v ∷ [] → lookup rows key ≡ Some v → C) → C
one_row {C} key rows s absent present =
    go (met Only key rows) refl (where_told (same key) rows) (where_sorted (same key) rows s)
  where
    looked : lookup (met Only key rows) key ≡ lookup rows key
    looked = lookup_where (same key) rows key ∙ rw (same_refl key)

    go : (l : List Row) → met Only key rows ≡ l → AllKeys (λ k. same key k ≡ true) l → Sorted l → C
    go [] e a o = absent e (sym looked ∙ ap (λ (l : List Row). lookup l key) e)
    go (r ∷ []) e a o =
        let is : key ≡ r.key = same_told key r.key a.0 in
        let row : r ≡ row_of key r.value = λ i. record { key = sym is i; value = r.value } in
        let own : lookup (row_of key r.value ∷ []) key ≡ Some r.value = rw (same_refl key) in
        present r.value (e ∙ ap (λ (x : Row). x ∷ []) row)
        (sym looked ∙ ap (λ (l : List Row). lookup l key) e ∙ ap (λ (x : Row). lookup (x ∷ []) key) row ∙ own)
    go (r ∷ q ∷ l) e a o =
        let x : key ≡ r.key = same_told key r.key a.0 in
        let y : key ≡ q.key = same_told key q.key a.1.0 in
        clash (sym o.0.0 ∙ ap₂ before (sym x) (sym y) ∙ before_never key)

-- no more rows are left than there were
pub skip_fewer : (test : List ℕ → Bool) (t : List ℕ) (at n : ℕ) → (skip_where test t at n).left ≤ n
unfolding skip_where
skip_fewer test t at zero = omega arith
skip_fewer test t at (suc n) = go (row_at t at) (λ p. skip_fewer test t p.next n)
  where
    here : (b : Bool) (p : EntryPlace) → (skip_where test t p.next n).left ≤ n
        → (cond b (skip_where test t p.next n) (rows_from at (suc n))).left ≤ suc n
    here true p h = omega arith
    here false p h = omega arith

    go : (o : Option EntryPlace) → ((p : EntryPlace) → (skip_where test t p.next n).left ≤ n)
        → (case_row o (λ p. cond (test (key_in t p)) (skip_where test t p.next n) (rows_from at (suc n)))
        (rows_from at (suc n))).left ≤ suc n
    go (Some p) further = here (test (key_in t p)) p (further p)
    go None further = omega arith

-- the span, from the two places; and of a table, the rows that the step is about
module _ (count : ℕ) (t : List ℕ) (reach : Reach) (key : List ℕ) where
  module _ (f g : RowsFrom) (f_is : f ≡ skip_where (λ k. before k key) t 0 count)
      (g_is : g ≡ skip_where (meets reach key) t f.at f.left) where
    pub span_left : g.left ≤ f.left
    span_left = rw g_is (skip_fewer (meets reach key) t f.at f.left)

    pub span_found : between f g ≡ span_at reach key t count
    unfolding span_at
    span_found = ap (between f) g_is ∙ ap (λ (x : RowsFrom). behind_first x reach key t) f_is

  pub span_is : (rows : List Row) → Bytes t → table_rows count t ≡ Some rows
      → span_at reach key t count ≡ span_of reach key rows
  unfolding span_at
  span_is rows bytes e =
      let m : ℕ = length (met reach key rows) in
      let b : ℕ = length (behind reach key rows) in
      let left : m + b - b ≡ m = omega arith in
      ap (λ (x : RowsFrom). behind_first x reach key t) (skip_ahead count t reach key rows bytes e)
      ∙ ap (between (rows_from (weight (ahead key rows)) (m + b))) (skip_met count t reach key rows bytes e)
      ∙ ap (λ (n : ℕ). (record {
        at = weight (ahead key rows);
        end = weight (ahead key rows) + weight (met reach key rows);
        rows = n;
      })) left
