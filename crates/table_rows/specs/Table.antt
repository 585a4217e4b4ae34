-- The table: rows in lent memory (document 02, paper 7). Assumes nothing.
use Rattle.std.specs.Prelude.{◌&&◌, List, [], ◌∷◌, ◌++◌, ℕ, ◌-◌, length, replicate}
use Rattle.std.specs.Prelude.{Option, None, Some}
use Rattle.words.specs.Lists.{all_zero}
use Rattle.journal_entry.specs.Entry.{JournalEntry, journal_insert, journal_clone}
use Rattle.journal_entry.specs.Parse.{◌>>=◌, provided, read_entries}
use Rattle.table_rows.specs.Rows.{Row, row_of, forms, weight, ascending}

-- entries that are all inserts, as rows
abbrev pub rows_of : List JournalEntry → Option (List Row)
rows_of [] = Some []
rows_of (journal_insert key value ∷ es) = do
  rows ← rows_of es
  Some (row_of key value ∷ rows)
rows_of (journal_clone from to ∷ es) = None

-- "The table is one insert's wire form for each present key, keys ascending byte by byte, then zeros; the number of
-- rows goes with it." The rows of a slice of that form, and none of any other.
unfoldable pub table_rows : (count : ℕ) (table : List ℕ) → Option (List Row)
table_rows count table = do
  (es, rest) ← read_entries count table
  rows ← rows_of es
  provided (ascending rows && all_zero rest) (Some rows)

-- bytes, and zeros behind them up to a length
abbrev pub padded : (size : ℕ) → List ℕ → List ℕ
padded size s = s ++ replicate (size - length s) 0

-- the table of so many bytes that has these rows
unfoldable pub table_of : (size : ℕ) → List Row → List ℕ
table_of size rows = forms rows ++ replicate (size - weight rows) 0
