-- Rows by their places in a table, as the code goes. `RowPlaces` and `Spans` in proofs/ have that these are the rows
-- of the table. Assumes nothing.
use Rattle.std.specs.Prelude.{Bool, cond, Option, None, Some, List, [], ◌≡◌, ℕ, zero, suc, ◌+◌, ◌-◌, length, take, drop}
use Rattle.words.specs.Lists.{Bytes}
use Rattle.journal_entry.specs.declared.Kind.{Kind}
use Rattle.journal_entry.specs.declared.Kind.TheVariants.{Insert, Clone}
use Rattle.journal_entry.specs.declared.EntryPlace.{EntryPlace}
use Rattle.journal_entry.specs.Places.{entry_at}
use Rattle.key_map.specs.Keys.{before}
use Rattle.table_rows.specs.declared.Reach.{Reach}
use Rattle.table_rows.specs.declared.RowsFrom.{RowsFrom}
use Rattle.table_rows.specs.declared.Span.{Span}
use Rattle.table_rows.specs.declared.Found.{Found}
use Rattle.table_rows.specs.declared.Pass.{Pass}
use Rattle.table_rows.specs.declared.Pass.TheVariants.{Before, About}
use Rattle.table_rows.specs.Rows.{Row, weight, meets, ahead, met}
use Rattle.table_rows.specs.Table.{table_rows}

-- an insert is a row, a clone is none
abbrev pub row_of_kind : Kind → EntryPlace → Option EntryPlace
row_of_kind Insert p = Some p
row_of_kind Clone p = None

abbrev pub row_of_entry : Option EntryPlace → Option EntryPlace
row_of_entry (Some p) = row_of_kind p.kind p
row_of_entry None = None

-- the row at `at` of a table
unfoldable pub row_at : (t : List ℕ) (at : ℕ) → Option EntryPlace
row_at t at = row_of_entry (entry_at t at (length t))

abbrev pub key_in : (t : List ℕ) (p : EntryPlace) → List ℕ
key_in t p = take p.first_len (drop p.first_at t)

abbrev pub value_in : (t : List ℕ) (p : EntryPlace) → List ℕ
value_in t p = take p.second_len (drop p.second_at t)

abbrev pub case_row : {A : Type 0} → Option EntryPlace → (EntryPlace → A) → A → A
case_row (Some p) f a = f p
case_row None f a = a

abbrev pub rows_from : (at left : ℕ) → RowsFrom
rows_from at left = record { at = at; left = left }

-- what is left behind the first rows whose key passes a test
unfoldable pub skip_where : (test : List ℕ → Bool) (t : List ℕ) (at left : ℕ) → RowsFrom
skip_where test t at zero = rows_from at 0
skip_where test t at (suc n) =
    case_row (row_at t at) (λ p. cond (test (key_in t p)) (skip_where test t p.next n) (rows_from at (suc n)))
    (rows_from at (suc n))

-- rows before a key, or those that a step at it is about
abbrev pub passing : Pass → (key k : List ℕ) → Bool
passing Before key k = before k key
passing (About reach) key k = meets reach key k

-- the rows of a slice that is a table
abbrev pub rows_or : Option (List Row) → List Row
rows_or (Some rows) = rows
rows_or None = []

unfoldable pub rows_in : (count : ℕ) (t : List ℕ) → List Row
rows_in count t = rows_or (table_rows count t)

-- where the rows that a step is about lie, as the code finds them: behind those before the key, up to the first that
-- the step is not about; of a table that is `span_of` (law `span_is`)
abbrev pub between : (first last : RowsFrom) → Span
between first last = record { at = first.at; end = last.at; rows = first.left - last.left }

abbrev pub behind_first : (first : RowsFrom) → Reach → (key t : List ℕ) → Span
behind_first first reach key t = between first (skip_where (meets reach key) t first.at first.left)

unfoldable pub span_at : Reach → (key t : List ℕ) (count : ℕ) → Span
span_at reach key t count = behind_first (skip_where (λ k. before k key) t 0 count) reach key t

-- where the rows that a step is about begin and end, and how many they are
abbrev pub span_of : Reach → (key : List ℕ) → List Row → Span
span_of reach key rows =
    record {
      at = weight (ahead key rows);
      end = weight (ahead key rows) + weight (met reach key rows);
      rows = length (met reach key rows);
    }

-- the place behind rows from `at` on
abbrev pub used_of : (at : ℕ) → Option (List Row) → Option ℕ
used_of at (Some rows) = Some (at + weight rows)
used_of at None = None

-- the bytes of a table's rows, and the rows that a step is about; none of a slice that is no table
abbrev pub found_of : Option ℕ → Span → Option Found
found_of (Some n) span = Some (record { used = n; span = span })
found_of None span = None

abbrev pub found_at : Reach → (key t : List ℕ) (count : ℕ) → Option Found
found_at reach key t count = found_of (used_of 0 (table_rows count t)) (span_at reach key t count)

-- what was found: a slice of bytes that is a table, and where the rows lie
pub record FoundIn (count : ℕ) (t : List ℕ) (reach : Reach) (key : List ℕ) (found : Found) : Type 0 where
  pub bytes : Bytes t
  pub is : table_rows count t ≡ Some (rows_in count t)
  pub used_is : found.used ≡ weight (rows_in count t)
  pub span_is : found.span ≡ span_at reach key t count
