-- The calls of demand 3 and of document 02, and what each leaves: made of the definitions that the functions'
-- promises cite, so that the history is one of the code. Assumes nothing.
use Rattle.std.specs.Prelude.{Bool, true, false, List, ℕ, ◌*◌, take, Option, None, Some}
use Rattle.refusals.specs.Outcome.{Outcome, gives, refuses, refuses_block, into}
use Rattle.journal_entry.specs.Entry.{JournalEntry}
use Rattle.journalist.specs.declared.Journalist.{Journalist}
use Rattle.journalist.specs.declared.Packaged.{Packaged}
use Rattle.journalist.specs.Calls.{freeze_call, thaw_call, set_written_journal_len_call}
use Rattle.journalist.specs.Calls.{update_written_journal_len_call}
use Rattle.journalist.specs.Calls.{query_call, has_frozen_journal, has_in_memory_journal, is_replay_empty, present}
use Rattle.journalist.specs.Append.{append_call, ring_appended}
use Rattle.journalist.specs.Package.{package_frozen_journal_call, frozen_packaged, package_in_memory_journal_call}
use Rattle.journalist.specs.Package.{memory_packaged}
use Rattle.journalist.specs.Recovery.{set_front_call, set_back_call, parse_journals_call, replay_journal_top_call}
use Rattle.journalist.specs.Recovery.{replay_journal_pop_call}
use Rattle.history.specs.Lists.{Told, appending, freezing, thawing, packaging_frozen, packaging_in_memory}
use Rattle.history.specs.Lists.{setting_written, updating_written, another}

pub data Query : Type 0 where
  frozen_query : Query
  in_memory_query : Query
  written_query : Query
  replay_query : Query
  front_query : Query
  back_query : Query
  clones_query : Query

-- a call with its arguments and each buffer that is lent to it, other than the ring
pub data Call : Type 0 where
  append : (e : JournalEntry) → Call
  freeze : Call
  thaw : Call
  package_frozen_journal : (out : List ℕ) → Call
  package_in_memory_journal : (out : List ℕ) → Call
  set_written_journal_len : (len : ℕ) → Call
  update_written_journal_len : (len : ℕ) → Call
  set_front : (payload front : List ℕ) → Call
  set_back : (payload back : List ℕ) → Call
  parse_journals : (front back replay : List ℕ) → Call
  replay_journal_top : (replay : List ℕ) → Call
  replay_journal_pop : (replay : List ℕ) → Call
  query : Query → Call

abbrev pub told_of : Call → Told
told_of (append e) = appending e
told_of freeze = freezing
told_of thaw = thawing
told_of (package_frozen_journal out) = packaging_frozen
told_of (package_in_memory_journal out) = packaging_in_memory
told_of (set_written_journal_len len) = setting_written len
told_of (update_written_journal_len len) = updating_written len
told_of (set_front payload front) = another
told_of (set_back payload back) = another
told_of (parse_journals front back replay) = another
told_of (replay_journal_top replay) = another
told_of (replay_journal_pop replay) = another
told_of (query q) = another

-- what a call leaves: whether it was refused, the record for the next call, the ring, and the image that it handed
-- out, if it did
pub record Left : Type 0 where
  pub refused : Bool
  pub journalist : Journalist
  pub ring : List ℕ
  pub image : Option (List ℕ)

-- "After a refusal the next call gets the record that the refused one got."
abbrev pub leaves : Outcome Journalist → Journalist → (ring : List ℕ) → Option (List ℕ) → Left
leaves (gives j') j ring image = record { refused = false; journalist = j'; ring = ring; image = image }
leaves (refuses number) j ring image = record { refused = true; journalist = j; ring = ring; image = image }
leaves (refuses_block number block) j ring image = record { refused = true; journalist = j; ring = ring; image = image }

-- a call whose result is not a record leaves the one that it got
abbrev pub keeping : {A : Type 0} → Journalist → Outcome A → Outcome Journalist
keeping j o = into (λ answer. j) o

-- the image is what lies in the output after a packaging, as far as the blocks that it answers
abbrev pub record_of : Outcome Packaged → Outcome Journalist
record_of o = into (λ answer. answer.journalist) o

abbrev pub image_in : Outcome Packaged → (out : List ℕ) → Option (List ℕ)
image_in (gives answer) out = Some (take (4096 * answer.blocks) out)
image_in (refuses number) out = None
image_in (refuses_block number block) out = None

abbrev pub asked : Query → Journalist → Outcome Journalist
asked frozen_query j = keeping j (query_call j (has_frozen_journal j))
asked in_memory_query j = keeping j (query_call j (has_in_memory_journal j))
asked written_query j = keeping j (query_call j j.written)
asked replay_query j = keeping j (query_call j (is_replay_empty j))
asked front_query j = keeping j (query_call j (present j.front))
asked back_query j = keeping j (query_call j (present j.back))
asked clones_query j = keeping j (query_call j j.clones)

abbrev pub step : Call → Journalist → (ring : List ℕ) → Left
step (append e) j ring = leaves (append_call j ring e) j (ring_appended j ring e) None
step freeze j ring = leaves (freeze_call j) j ring None
step thaw j ring = leaves (thaw_call j) j ring None
step (package_frozen_journal out) j ring =
    let o = package_frozen_journal_call j ring out in
    leaves (record_of o) j ring (image_in o (frozen_packaged j ring out))
step (package_in_memory_journal out) j ring =
    let o = package_in_memory_journal_call j ring out in
    leaves (record_of o) j ring (image_in o (memory_packaged j ring out))
step (set_written_journal_len len) j ring = leaves (set_written_journal_len_call j len) j ring None
step (update_written_journal_len len) j ring = leaves (update_written_journal_len_call j len) j ring None
step (set_front payload front) j ring = leaves (set_front_call j payload front) j ring None
step (set_back payload back) j ring = leaves (set_back_call j payload back) j ring None
step (parse_journals front back replay) j ring = leaves (parse_journals_call j front back replay) j ring None
step (replay_journal_top replay) j ring = leaves (keeping j (replay_journal_top_call j replay)) j ring None
step (replay_journal_pop replay) j ring = leaves (replay_journal_pop_call j replay) j ring None
step (query q) j ring = leaves (asked q j) j ring None
