-- The replica's calls for a caller that has only numbers: the number of rows lies in a lent word (document 02, paper 7;
-- the words and numbers are those of `record_words`). Assumes nothing.
use Rattle.std.specs.Prelude.{List, [], ◌∷◌, ℕ, drop}
use Rattle.std.specs.Prelude.{Option, None, Some}
use Rattle.refusals.specs.Outcome.{Outcome, gives, refuses, refuses_block, given◌else◌then◌, into}
use Rattle.journal_entry.specs.Entry.{JournalEntry}
use Rattle.journalist.specs.declared.Journalist.{Journalist}
use Rattle.record_words.specs.Calls.{on_record, lent_after}
use Rattle.record_words.specs.AnswerWords.{answers_with}
use Rattle.replica_table.specs.declared.ValuePlace.{ValuePlace}
use Rattle.replica_table.specs.Calls.{step_call, step_table, step_work, lookup_call}
use Rattle.replica.specs.declared.Replayed.{Replayed}
use Rattle.replica.specs.Replay.{after, next_entry, step_then, replay_next_table, replay_next_work}

-- the first word is the number of rows; words behind it are neither read nor changed
abbrev pub rows_word : (rows : List ℕ) → Option ℕ
rows_word [] = None
rows_word (n ∷ rest) = Some n

-- a call on that many rows: no word there is a table not of the form, 2
abbrev pub on_rows : {A : Type 0} → (rows : List ℕ) → (ℕ → Outcome A) → Outcome A
on_rows rows call = given rows_word rows else 2 then call

-- the words after a call: the new number first; a refusal changes nothing
abbrev pub rows_after : (rows : List ℕ) → Outcome ℕ → List ℕ
rows_after rows (gives n) = n ∷ drop 1 rows
rows_after rows (refuses number) = rows
rows_after rows (refuses_block number block) = rows

-- a lent buffer after a call, by what the call leaves there
abbrev pub lent_on : (rows lent : List ℕ) → (ℕ → List ℕ) → List ℕ
lent_on [] lent left = lent
lent_on (n ∷ rest) lent left = left n

-- an entry's step, and what it leaves in both buffers
abbrev pub step_in : (rows table work : List ℕ) (e : JournalEntry) → Outcome ℕ
step_in rows table work e = on_rows rows λ n. step_call n table work e

abbrev pub step_table_in : (rows table work : List ℕ) (e : JournalEntry) → List ℕ
step_table_in rows table work e = lent_on rows table λ n. step_table n table work e

abbrev pub step_work_in : (rows table work : List ℕ) (e : JournalEntry) → List ℕ
step_work_in rows table work e = lent_on rows work λ n. step_work n table work e

-- the value's place in the table and its length
abbrev pub place_words : ValuePlace → List ℕ
place_words p = p.at ∷ p.len ∷ []

abbrev pub lookup_in : (rows table key answer : List ℕ) → Outcome (List ℕ)
lookup_in rows table key answer = answers_with (into place_words (on_rows rows λ n. lookup_call n table key)) answer

-- the entry on top stepped and popped: pop's numbers first, then the step's
abbrev pub replay_on : Journalist → (replay rows table work : List ℕ) → Outcome Replayed
replay_on j replay rows table work = after (next_entry j replay) λ x. on_rows rows λ n. step_then n table work x

abbrev pub replay_table_on : Journalist → (replay rows table work : List ℕ) → List ℕ
replay_table_on j replay rows table work = lent_on rows table λ n. replay_next_table j replay n table work

abbrev pub replay_work_on : Journalist → (replay rows table work : List ℕ) → List ℕ
replay_work_on j replay rows table work = lent_on rows work λ n. replay_next_work j replay n table work

-- the same on a record that lies in words
abbrev pub replay_in : (words replay rows table work : List ℕ) → Outcome Replayed
replay_in words replay rows table work = on_record words λ j. replay_on j replay rows table work

abbrev pub replay_table_in : (words replay rows table work : List ℕ) → List ℕ
replay_table_in words replay rows table work = lent_after words table λ j. replay_table_on j replay rows table work

abbrev pub replay_work_in : (words replay rows table work : List ℕ) → List ℕ
replay_work_in words replay rows table work = lent_after words work λ j. replay_work_on j replay rows table work

-- what a call on both gives each of them
abbrev pub journal_of : Outcome Replayed → Outcome Journalist
journal_of o = into (λ (x : Replayed). x.journalist) o

abbrev pub count_of : Outcome Replayed → Outcome ℕ
count_of o = into (λ (x : Replayed). x.rows) o
