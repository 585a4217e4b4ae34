-- A table and its rows: what reads is the one table of its rows, what is written reads, and tables of one length and
-- one content are the same. Assumes nothing.
use mathlib.Core.Path.{◌≡◌, refl, sym, ap, ap₂, ◌∙◌, subst}
use mathlib.Core.Bool.{true, ◌&&◌}
use mathlib.Core.List.{List, [], ◌∷◌, ◌++◌}
use Rattle.std.specs.Prelude.{Some}
use Prim.Native.Nat.{ℕ, suc, ◌+◌, ◌-◌, ◌≤◌}
use native.Mathlib.Omega.{arith}
use lib.ListN.{length, replicate, length-append, length-replicate}
use Rattle.refusals.proofs.Tests.{both, impossible}
use Rattle.words.specs.Lists.{all_zero}
use Rattle.words.proofs.Slices.{Bytes}
use Rattle.words.proofs.Zeros.{zeros_told, zeros_pass}
use Rattle.journal_entry.specs.Entry.{JournalEntry, journal_insert, journal_clone}
use Rattle.journal_entry.specs.Entry.{AllWithin, value_limit, sum_journal_entries}
use Rattle.journal_entry.specs.Entry.{wires}
use Rattle.journal_entry.specs.Parse.{read_entries}
use Rattle.journal_entry.proofs.Options.{bind_parts, provided_parts, T→true}
use Rattle.journal_entry.proofs.Sound.{AllStand, read_entries_sound}
use Rattle.journal_entry.proofs.Reading.{read_entries_wires, length_wires, wires_append, sum_append}
use Rattle.table_rows.specs.Rows.{Row, row_of, inserts, forms, weight, lookup, ascending}
use Rattle.table_rows.specs.Table.{rows_of, table_rows, table_of}
use Rattle.table_rows.proofs.Ascending.{sorted}
use Rattle.table_rows.proofs.Canonical.{canonical}

pub rows_of_told : (es : List JournalEntry) (rows : List Row) → rows_of es ≡ Some rows → es ≡ inserts rows
rows_of_told [] rows e = ap inserts (let z : [] ≡ rows = cc in z)
rows_of_told (journal_insert k v ∷ es) rows e =
    bind_parts (rows_of es) _ rows e λ xs f e₁.
    let is : row_of k v ∷ xs ≡ rows = cc in
    ap (λ (l : List JournalEntry). journal_insert k v ∷ l) (rows_of_told es xs f) ∙ ap inserts is
rows_of_told (journal_clone from to ∷ es) rows e = impossible cc

pub rows_of_inserts : (rows : List Row) → rows_of (inserts rows) ≡ Some rows
rows_of_inserts [] = refl
rows_of_inserts (r ∷ rows) = rw (rows_of_inserts rows)

pub length_inserts : (rows : List Row) → length (inserts rows) ≡ length rows
length_inserts [] = refl
length_inserts (r ∷ rows) = ap suc (length_inserts rows)

pub inserts_append : (xs ys : List Row) → inserts (xs ++ ys) ≡ inserts xs ++ inserts ys
inserts_append [] ys = refl
inserts_append (r ∷ xs) ys =
    ap (λ (l : List JournalEntry). journal_insert r.key r.value ∷ l) (inserts_append xs ys)

pub forms_append : (xs ys : List Row) → forms (xs ++ ys) ≡ forms xs ++ forms ys
forms_append xs ys = ap wires (inserts_append xs ys) ∙ wires_append (inserts xs) (inserts ys)

pub weight_append : (xs ys : List Row) → weight (xs ++ ys) ≡ weight xs + weight ys
weight_append xs ys = ap sum_journal_entries (inserts_append xs ys) ∙ sum_append (inserts xs) (inserts ys)

pub length_forms : (rows : List Row) → length (forms rows) ≡ weight rows
length_forms rows = length_wires (inserts rows)

-- What a slice of the form is. (That its bytes are below 256 is what a slice gives.)
pub record IsTable (count : ℕ) (table : List ℕ) (rows : List Row) : Type 0 where
  pub count_is : length rows ≡ count
  pub ascending_is : ascending rows ≡ true
  pub within : AllWithin (inserts rows)
  pub fits : weight rows ≤ length table
  pub bytes_are : Bytes table → table ≡ table_of (length table) rows

pub table_told : (count : ℕ) (table : List ℕ) (rows : List Row) → table_rows count table ≡ Some rows
    → IsTable count table rows
unfolding table_rows table_of
table_told count table rows e =
    bind_parts (read_entries count table) _ rows e λ x f₁ e₁.
    bind_parts (rows_of x.0) _ rows e₁ λ xs f₂ e₂.
    provided_parts (ascending xs && all_zero x.1) _ rows e₂ λ t e₃.
    let is : xs ≡ rows = cc in
    let (a, z) = both (ascending xs) (all_zero x.1) (T→true t) in
    let stand : AllStand value_limit count table x = read_entries_sound value_limit count table x f₁ in
    let es : x.0 ≡ inserts xs = rows_of_told x.0 xs f₂ in
    let counted : length (inserts xs) ≡ count = rw es at stand.count in
    let weighs : weight xs + length x.1 ≡ length table = rw es at stand.weighs in
    let rest : length x.1 ≡ length table - weight xs = omega arith in
    subst (IsTable count table) is
    (record {
      count_is = sym (length_inserts xs) ∙ counted;
      ascending_is = a;
      within = rw es at stand.limits;
      fits = omega arith;
      bytes_are = λ b. sym (stand.bytes_are b)
          ∙ rw es (ap (λ (l : List ℕ). forms xs ++ l) (zeros_told x.1 z ∙ ap (λ (n : ℕ). replicate n 0) rest));
    })

pub table_reads : (size : ℕ) (rows : List Row) → ascending rows ≡ true → AllWithin (inserts rows)
    → table_rows (length rows) (table_of size rows) ≡ Some rows
unfolding table_rows table_of
table_reads size rows a w =
    let pad : List ℕ = replicate (size - weight rows) 0 in
    let reads : read_entries (length rows) (forms rows ++ pad) ≡ Some (inserts rows, pad) =
    rw (length_inserts rows) at (read_entries_wires (inserts rows) pad w) in
    rw (reads, rows_of_inserts rows, a, zeros_pass (size - weight rows))

pub length_table_of : (size : ℕ) (rows : List Row) → weight rows ≤ size → length (table_of size rows) ≡ size
unfolding table_of
length_table_of size rows h = rw (length-append, length_forms rows, length-replicate) (omega arith)

-- ONE FORM FOR ONE CONTENT, of tables: two of one length that give every key the same are the same bytes, with the
-- same number of rows
pub one_table : (m n : ℕ) (s t : List ℕ) (xs ys : List Row) → Bytes s → Bytes t → length s ≡ length t
    → table_rows m s ≡ Some xs → table_rows n t ≡ Some ys → ((k : List ℕ) → lookup xs k ≡ lookup ys k)
    → (m ≡ n) × (s ≡ t)
one_table m n s t xs ys bs bt e fs ft agree =
    let p = table_told m s xs fs in
    let q = table_told n t ys ft in
    let is : xs ≡ ys = canonical xs ys (sorted xs p.ascending_is) (sorted ys q.ascending_is) agree in
    (sym p.count_is ∙ ap length is ∙ q.count_is, p.bytes_are bs ∙ ap₂ table_of e is ∙ sym (q.bytes_are bt))
