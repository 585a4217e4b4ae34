-- A table's test, row by row: what is still to be tested when some rows are read. Assumes nothing.
use Rattle.std.specs.Prelude.{Bool, true, cond, ◌&&◌, Option, None, Some, List, ◌≡◌, ℕ, ◌+◌, ◌-◌, ◌≤◌, length, drop}
use Rattle.words.specs.Lists.{all_zero}
use Rattle.journal_entry.specs.declared.EntryPlace.{EntryPlace}
use Rattle.journal_entry.specs.Parse.{◌>>=◌, provided, read_entries}
use Rattle.key_map.specs.Keys.{before}
use Rattle.table_rows.specs.declared.rest.Rest.{Rest}
use Rattle.table_rows.specs.Rows.{Row, ascending_from, ascending}
use Rattle.table_rows.specs.Table.{rows_of}
use Rattle.table_rows.specs.Places.{row_at, key_in, case_row, rows_from, skip_where, used_of}

-- the key of the row before, if there is one
abbrev pub prior_key : (t : List ℕ) → Option EntryPlace → Option (List ℕ)
prior_key t None = None
prior_key t (Some p) = Some (key_in t p)

abbrev pub is_behind : Option (List ℕ) → List ℕ → Bool
is_behind None k = true
is_behind (Some j) k = before j k

-- the row in front, if there is one whose key stands behind the key before it
abbrev pub next_row : (t : List ℕ) → Rest → Option EntryPlace
next_row t r =
    case_row (row_at t r.rows.at) (λ p. cond (is_behind (prior_key t r.prior) (key_in t p)) (Some p) None) None

-- what is left behind it
abbrev pub rest_behind : Rest → EntryPlace → Rest
rest_behind r p = record { rows = rows_from p.next (r.rows.left - 1); prior = Some p }

-- ascending behind the key of the row before, if there is one
abbrev pub behind_prior : Option (List ℕ) → List Row → Bool
behind_prior None rows = ascending rows
behind_prior (Some k) rows = ascending_from k rows

abbrev pub tested : Option (List ℕ) → (rest : List ℕ) → List Row → Option (List Row)
tested prior rest rows = provided (behind_prior prior rows && all_zero rest) (Some rows)

-- so many rows, behind the one before, and zeros
unfoldable pub rest_rows : (prior : Option (List ℕ)) (n : ℕ) (s : List ℕ) → Option (List Row)
rest_rows prior n s = do
  (es, rest) ← read_entries n s
  rows ← rows_of es
  tested prior rest rows

-- the bytes that all rows of the table take, told from what is left; none, where that is no table's rest
unfoldable pub taken : (t : List ℕ) → Rest → Option ℕ
taken t r = used_of r.rows.at (rest_rows (prior_key t r.prior) r.rows.left (drop r.rows.at t))

-- what is left, and the key of the row before, lie in the table
abbrev pub KeyLies : (t : List ℕ) → Option EntryPlace → Type 0
KeyLies t None = Unit {0}
KeyLies t (Some p) = p.first_at + p.first_len ≤ length t

pub record Lies (t : List ℕ) (r : Rest) : Type 0 where
  pub inside : r.rows.at ≤ length t
  pub prior_inside : KeyLies t r.prior

-- what is left behind the rows that pass a test tells the same of the whole
pub record PassedTo (t : List ℕ) (test : List ℕ → Bool) (from to : Rest) : Type 0 where
  pub lies : Lies t to
  pub tells : taken t to ≡ taken t from
  pub rows_are : to.rows ≡ skip_where test t from.rows.at from.rows.left
