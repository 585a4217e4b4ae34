-- The calls of the replica: document 02, paper 7. Assumes nothing.
use Rattle.std.specs.Prelude.{List, [], ℕ, ◌+◌, leb, eqb, length, replicate}
use Rattle.refusals.specs.Outcome.{Outcome, gives, refuses, refuses_block, require◌else◌then◌, given◌else◌then◌, into}
use Rattle.refusals.specs.Outcome.{bytes_after}
use Rattle.journal_entry.specs.Entry.{JournalEntry, is_clone, first, second, first_limit, second_limit}
use Rattle.replica_table.specs.declared.ValuePlace.{ValuePlace}
use Rattle.table_rows.specs.Rows.{Row, weight, lookup, ahead, made, stepped, keys_fit}
use Rattle.table_rows.specs.Table.{table_rows, table_of}

-- A step comes to the new rows. "Errors: 2, a table not of this form or a second buffer of another length, comes
-- first, then 3 and 4 as for an entry. 20, a clone would make a key over 512 bytes, comes before 21, the resulting
-- rows' wire forms are together longer than the table's memory."
unfoldable pub step_rows : (count : ℕ) (table work : List ℕ) (e : JournalEntry) → Outcome (List Row)
step_rows count table work e =
    given table_rows count table else 2 then λ rows.
    require eqb (length work) (length table) else 2 then
    require leb (length (first e)) first_limit else 3 then
    require leb (length (second e)) (second_limit (is_clone e)) else 4 then
    require keys_fit (made rows e) else 20 then
    require leb (weight (stepped rows e)) (length table) else 21 then
    gives (stepped rows e)

-- the answer: the new number of rows
abbrev pub step_call : (count : ℕ) (table work : List ℕ) (e : JournalEntry) → Outcome ℕ
step_call count table work e = into length (step_rows count table work e)

-- what the call leaves in the table and in the second buffer, which is "working space, all zeros after an accepted
-- step". "A refusal changes neither buffer."
abbrev pub rows_given : Outcome (List Row) → List Row
rows_given (gives rows) = rows
rows_given (refuses number) = []
rows_given (refuses_block number block) = []

unfoldable pub step_table : (count : ℕ) (table work : List ℕ) (e : JournalEntry) → List ℕ
step_table count table work e =
    bytes_after (step_rows count table work e)
    (table_of (length table) (rows_given (step_rows count table work e))) table

unfoldable pub step_work : (count : ℕ) (table work : List ℕ) (e : JournalEntry) → List ℕ
step_work count table work e = bytes_after (step_rows count table work e) (replicate (length work) 0) work

-- Lookup: 2 for the table, "then hands back the value as it is there" (its place and length in the table), "or 8
-- for an absent key of any length".
unfoldable pub lookup_call : (count : ℕ) (table key : List ℕ) → Outcome ValuePlace
lookup_call count table key =
    given table_rows count table else 2 then λ rows.
    given lookup rows key else 8 then λ value.
    gives (record { at = weight (ahead key rows) + 8 + length key; len = length value })
