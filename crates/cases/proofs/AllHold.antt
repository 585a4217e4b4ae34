-- The starred cases hold: each range by computation whether it reads, and then by the laws of a recovery; the
-- others by computation. Assumes nothing.
use mathlib.Core.Path.{◌≡◌, refl, ap, ◌∙◌}
use mathlib.Core.Bool.{true}
use mathlib.Core.List.{List, [], append-nil}
use Rattle.std.specs.Prelude.{None, Some}
use Prim.Native.Nat.{ℕ, ◌+◌, ◌%◌, ◌≤◌}
use native.Mathlib.Omega.{arith}
use lib.ListN.{length}
use Rattle.refusals.specs.Outcome.{gives, refuses}
use Rattle.words.specs.Words.{word}
use Rattle.words.specs.Lists.{concat_seq}
use Rattle.journal_entry.specs.Entry.{JournalEntry, sum_journal_entries, wire, wires, within_limits_at}
use Rattle.journal_entry.specs.Parse.{read_bytes, read_word, parse_entry_at, read_entries_at, parse_entries_at}
use Rattle.journal_range.specs.Range.{JournalRange, parse_header, parse_journal_range_of_bytes_at, parse_from_at}
use Rattle.journal_range.specs.Range.{parse_journal_range_at}
use Rattle.journal_range.specs.Payload.{payload, parse_payload}
use Rattle.disk_layout.specs.JournalInterval.{valid_journal_interval, contiguous_journal_interval}
use Rattle.disk_layout.specs.JournalInterval.{journal_front_interval}
use Rattle.disk_layout.specs.JournalInterval.{journal_back_interval, next_start_point}
use Rattle.disk_layout.specs.Calls.{front_call, back_call, next_start_call, location_call}
use Rattle.journalist.specs.declared.Journalist.{Journalist}
use Rattle.journalist.specs.Record.{in_range, list_weight, hangs_together}
use Rattle.journalist.specs.Changes.{empty_record, appended_record}
use Rattle.journalist.specs.Calls.{open_call}
use Rattle.journalist.specs.Append.{can_append, ring_takes, append_call}
use Rattle.journalist.proofs.Kept.{empty_hangs}
use Rattle.history.specs.Crash.{replayed}
use Rattle.history.proofs.Crash.{recovers, not_recovered}
use Rattle.cases.specs.Cases.{loaded, appended, AllHold, cases}

-- the new record
abbrev new : Journalist
new = empty_record 10 0

new_opened : open_call 10 0 ≡ gives new
unfolding open_call in_range
new_opened = refl

new_hangs : hangs_together new ≡ true
unfolding in_range
new_hangs = empty_hangs 10 0 refl

module _ (jr : JournalRange) (whole : length (concat_seq jr) % 4064 ≡ 0) (few : length (concat_seq jr) ≤ 40640) where
  abbrev all : List ℕ
  all = concat_seq jr

  unread : parse_payload all ≡ None → loaded jr ≡ refuses 14
  unfolding loaded
  unread e =
      let refused = not_recovered new all [] all [] new_hangs whole refl (omega arith) (omega arith) (omega arith)
      (omega arith) all (ap parse_payload (append-nil all) ∙ e) in
      rw (new_opened, refused)

  read : (es : List JournalEntry) → parse_payload all ≡ Some es → sum_journal_entries es ≤ length all → (more : ℕ)
      → length es + more ≡ length all → loaded jr ≡ gives es
  unfolding loaded
  read es e fits more most =
      let r = recovers new all [] all [] new_hangs whole refl (omega arith) (omega arith) (omega arith)
      (omega arith) all es (ap parse_payload (append-nil all) ∙ e) fits in
      let out : replayed (length all) r.after r.buffer ≡ es = rw most at (r.replays more) in
      rw (new_opened, r.accepted, out)

-- the journal of the appends
fresh_hangs : hangs_together (empty_record 5 16904) ≡ true
unfolding in_range
fresh_hangs = empty_hangs 5 16904 refl

infixr 10 ◌also◌
-- one case, and the others
◌also◌ : {A B : Type 0} → A → B → A × B
◌also◌ a b = (a, b)

pub all_hold : AllHold cases
unfolding word wire wires within_limits_at read_bytes read_word parse_entry_at read_entries_at parse_entries_at
    parse_header
    parse_journal_range_of_bytes_at parse_from_at parse_journal_range_at parse_payload payload appended open_call
    in_range append_call
    can_append ring_takes list_weight appended_record front_call back_call next_start_call
    location_call valid_journal_interval contiguous_journal_interval journal_front_interval journal_back_interval
    next_start_point
all_hold =
    refl
    also refl
    also read _ refl (omega arith) [] refl (omega arith) 0 refl
    also read _ refl (omega arith) [] refl (omega arith) 4064 refl
    also unread _ refl (omega arith) refl
    also read _ refl (omega arith) _ refl (omega arith) 4063 refl
    also read _ refl (omega arith) _ refl (omega arith) 4063 refl
    also unread _ refl (omega arith) refl
    also read _ refl (omega arith) _ refl (omega arith) 4063 refl
    also unread _ refl (omega arith) refl
    also read _ refl (omega arith) _ refl (omega arith) 20319 refl
    also unread _ refl (omega arith) refl
    also rw fresh_hangs refl
    also rw fresh_hangs refl
    also refl
    also refl
    also read _ refl (omega arith) _ refl (omega arith) 4063 refl
    also rw fresh_hangs refl
    also rw fresh_hangs refl
    also rw fresh_hangs refl
    also refl
    also refl
    also refl
    also refl
    also refl
    also refl
    also tt
