-- The journal's replay into the replica: document 02, paper 7, over the journal's own definitions. Assumes nothing.
use Rattle.std.specs.Prelude.{List, [], ◌∷◌, ℕ, zero, suc, leb, length}
use Rattle.std.specs.Prelude.{Option, Some}
use Rattle.refusals.specs.Outcome.{Outcome, gives, refuses, refuses_block, require◌else◌then◌, into}
use Rattle.journal_entry.specs.Entry.{JournalEntry}
use Rattle.replay_cursor.specs.Cursor.{entry_at_top}
use Rattle.journalist.specs.declared.Journalist.{Journalist}
use Rattle.journalist.specs.Recovery.{replay_journal_top_call, replay_journal_pop_call}
use Rattle.table_rows.specs.Rows.{Row, weight, made, stepped, keys_fit}
use Rattle.table_rows.specs.Table.{table_rows}
use Rattle.replica_table.specs.Calls.{step_call, step_table, step_work}
use Rattle.replica.specs.declared.Replayed.{Replayed}

abbrev pub replayed : Journalist → (rows : ℕ) → Replayed
replayed j rows = record { journalist = j; rows = rows }

-- what follows gets the result; a refusal stays as it is
abbrev pub after : {A B : Type 0} → Outcome A → (A → Outcome B) → Outcome B
after (gives a) rest = rest a
after (refuses number) rest = refuses number
after (refuses_block number block) rest = refuses_block number block

-- The entry on top, and the record behind it: pop's 2, 8 and 14. (Where pop gives, so does top: law `pop_top`.)
unfoldable pub next_entry : Journalist → (replay : List ℕ) → Outcome (Journalist × JournalEntry)
next_entry j replay =
    after (replay_journal_pop_call j replay) λ next.
    after (replay_journal_top_call j replay) λ top.
    gives (next, entry_at_top replay top)

abbrev pub step_then : (count : ℕ) (table work : List ℕ) → Journalist × JournalEntry → Outcome Replayed
step_then count table work x = into (replayed x.0) (step_call count table work x.1)

-- then the step's own tests
unfoldable pub replay_next_call : Journalist → (replay : List ℕ) (count : ℕ) (table work : List ℕ)
    → Outcome Replayed
replay_next_call j replay count table work = after (next_entry j replay) (step_then count table work)

-- What it leaves in the two buffers: what the step leaves there. "A refusal changes neither buffer."
abbrev pub bytes_then : Outcome (Journalist × JournalEntry) → (JournalEntry → List ℕ) → (lent : List ℕ) → List ℕ
bytes_then (gives x) f lent = f x.1
bytes_then (refuses number) f lent = lent
bytes_then (refuses_block number block) f lent = lent

unfoldable pub replay_next_table : Journalist → (replay : List ℕ) (count : ℕ) (table work : List ℕ) → List ℕ
replay_next_table j replay count table work = bytes_then (next_entry j replay) (step_table count table work) table

unfoldable pub replay_next_work : Journalist → (replay : List ℕ) (count : ℕ) (table work : List ℕ) → List ℕ
replay_next_work j replay count table work = bytes_then (next_entry j replay) (step_work count table work) work

-- What the centre has: the record of a load, and the table with its second buffer.
pub record Centre : Type 0 where
  pub journal : Journalist
  pub count : ℕ
  pub table : List ℕ
  pub work : List ℕ

abbrev pub centre_after : Centre → (replay : List ℕ) → Replayed → Centre
centre_after s replay x =
    record {
      journal = x.journalist;
      count = x.rows;
      table = replay_next_table s.journal replay s.count s.table s.work;
      work = replay_next_work s.journal replay s.count s.table s.work;
    }

-- a whole replay: so many calls, each on what the one before left
unfoldable pub replay_all : (calls : ℕ) → Centre → (replay : List ℕ) → Outcome Centre
replay_all zero s replay = gives s
replay_all (suc n) s replay =
    after (replay_next_call s.journal replay s.count s.table s.work) λ x. replay_all n
    (centre_after s replay x) replay

-- what it leaves: the table's rows, and how long both buffers are
pub record Left : Type 0 where
  pub rows : Option (List Row)
  pub table : ℕ
  pub work : ℕ

abbrev pub left_by : Centre → Left
left_by s =
    record { rows = table_rows s.count s.table; table = length s.table; work = length s.work }

abbrev pub left_of : Outcome Centre → Outcome Left
left_of o = into left_by o

-- rows in two buffers of so many bytes
abbrev pub leaves : (size : ℕ) → List Row → Left
leaves size rows = record { rows = Some rows; table = size; work = size }

-- Entries stepped one by one into rows, in memory of so many bytes: the new rows, or 20 or 21 of the first step that is
-- refused.
unfoldable pub steps_rows : (size : ℕ) → List Row → List JournalEntry → Outcome (List Row)
steps_rows size rows [] = gives rows
steps_rows size rows (e ∷ es) =
    require keys_fit (made rows e) else 20 then
    require leb (weight (stepped rows e)) size else 21 then
    steps_rows size (stepped rows e) es
