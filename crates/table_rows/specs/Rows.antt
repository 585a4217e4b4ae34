-- The rows of a table, and the new rows of a step as three runs. Assumes nothing.
use Rattle.std.specs.Prelude.{Bool, true, cond, not, ◌&&◌, List, [], ◌∷◌, ◌++◌, ℕ, leb, length, drop}
use Rattle.std.specs.Prelude.{Option, None, Some}
use Rattle.journal_entry.specs.Entry.{JournalEntry, journal_insert, journal_clone, first_limit, sum_journal_entries}
use Rattle.journal_entry.specs.Entry.{wires}
use Rattle.table_rows.specs.declared.Reach.{Reach}
use Rattle.table_rows.specs.declared.Reach.TheVariants.{Only, Under}
use Rattle.key_map.specs.Keys.{before, begins, same}

-- a present key and its value
pub record Row : Type 0 where
  pub key : List ℕ
  pub value : List ℕ

abbrev pub row_of : (key value : List ℕ) → Row
row_of k v = record { key = k; value = v }

-- "one insert's wire form for each present key"
abbrev pub insert_of : Row → JournalEntry
insert_of r = journal_insert r.key r.value

abbrev pub inserts : List Row → List JournalEntry
inserts [] = []
inserts (r ∷ rows) = insert_of r ∷ inserts rows

-- their wire forms, one behind the other, and how long these are together
abbrev pub forms : List Row → List ℕ
forms rows = wires (inserts rows)

abbrev pub weight : List Row → ℕ
weight rows = sum_journal_entries (inserts rows)

-- what a key has
abbrev pub lookup : List Row → (k : List ℕ) → Option (List ℕ)
lookup [] k = None
lookup (r ∷ rows) k = cond (same r.key k) (Some r.value) (lookup rows k)

-- "keys ascending byte by byte": each behind the one before it
abbrev pub ascending_from : (prior : List ℕ) → List Row → Bool
ascending_from prior [] = true
ascending_from prior (r ∷ rows) = before prior r.key && ascending_from r.key rows

abbrev pub ascending : List Row → Bool
ascending [] = true
ascending (r ∷ rows) = ascending_from r.key rows

-- the rows whose key passes a test, in order
abbrev pub rows_where : (test : List ℕ → Bool) → List Row → List Row
rows_where test [] = []
rows_where test (r ∷ rows) = cond (test r.key) (r ∷ rows_where test rows) (rows_where test rows)

-- What a step is about: the one key that an insert sets, or the keys that begin with a clone's `to`.
abbrev pub reach_of : JournalEntry → Reach
reach_of (journal_insert key value) = Only
reach_of (journal_clone from to) = Under

abbrev pub target : JournalEntry → List ℕ
target (journal_insert key value) = key
target (journal_clone from to) = to

abbrev pub meets : Reach → (at key : List ℕ) → Bool
meets Only at key = same at key
meets Under at key = begins at key

-- the rows before those that a step is about, those, and the rows behind them
abbrev pub ahead : (at : List ℕ) → List Row → List Row
ahead at rows = rows_where (λ k. before k at) rows

abbrev pub met : Reach → (at : List ℕ) → List Row → List Row
met reach at rows = rows_where (meets reach at) rows

abbrev pub behind : Reach → (at : List ℕ) → List Row → List Row
behind reach at rows = rows_where (λ k. before at k && not (meets reach at k)) rows

-- a row of `from` with those first bytes replaced by `to`
abbrev pub moved : (from to : List ℕ) → Row → Row
moved from to r = row_of (to ++ drop (length from) r.key) r.value

abbrev pub moved_all : (from to : List ℕ) → List Row → List Row
moved_all from to [] = []
moved_all from to (r ∷ rows) = moved from to r ∷ moved_all from to rows

-- the rows that a step makes
abbrev pub made : List Row → JournalEntry → List Row
made rows (journal_insert key value) = row_of key value ∷ []
made rows (journal_clone from to) = moved_all from to (met Under from rows)

-- THE STEP: three runs
unfoldable pub stepped : List Row → JournalEntry → List Row
stepped rows e = ahead (target e) rows ++ (made rows e ++ behind (reach_of e) (target e) rows)

-- entries replayed one after the other, memory not limited
abbrev pub replayed : List Row → List JournalEntry → List Row
replayed rows [] = rows
replayed rows (e ∷ es) = replayed (stepped rows e) es

-- no key over the limit
abbrev pub keys_fit : List Row → Bool
keys_fit [] = true
keys_fit (r ∷ rows) = leb (length r.key) first_limit && keys_fit rows
