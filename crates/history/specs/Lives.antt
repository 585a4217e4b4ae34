-- A unit's lives, one after another on the same card: what lies there after any number of them, and the entries
-- that it stands for. Assumes nothing.
use Rattle.std.specs.Prelude.{◌≡◌, List, [], ◌++◌, ℕ, zero, suc, ◌%◌, length, Some}
use Rattle.refusals.specs.Outcome.{gives}
use Rattle.journal_entry.specs.Entry.{JournalEntry}
use Rattle.journal_range.specs.Payload.{parse_payload}
use Rattle.journalist.specs.declared.Journalist.{Journalist}
use Rattle.journalist.specs.Calls.{open_call}
use Rattle.history.specs.Calls.{Call}
use Rattle.history.specs.History.{Image, opened, payloads}
use Rattle.history.specs.Crash.{Replays, EntriesOf}

-- A life, from opening to a power cut: it finds payload and entries, and leaves others.
pub record Life (payload : List ℕ) (es : List JournalEntry) (payload' : List ℕ) (es' : List JournalEntry) : Type 0 where
  -- its history
  pub n : ℕ
  pub r : ℕ
  pub journalist : Journalist
  pub ring : List ℕ
  pub calls : List Call
  pub opens : open_call n r ≡ gives journalist
  pub ring_long : length ring ≡ r
  -- of what it found some first batches were dropped
  pub dropped : List ℕ
  pub left : List ℕ
  pub in_two : dropped ++ left ≡ payload
  pub at_a_block : length dropped % 4064 ≡ 0
  pub gone : List JournalEntry
  pub stay : List JournalEntry
  pub dropped_reads : parse_payload dropped ≡ Some gone
  pub lists_in_two : gone ++ stay ≡ es
  -- behind the rest lie consecutive images that it handed out
  pub earlier : List Image
  pub kept : List Image
  pub entries : List JournalEntry
  pub entries_of_lem : EntriesOf (opened journalist ring) calls earlier kept entries
  pub payload_after : left ++ payloads kept ≡ payload'
  pub entries_after : stay ++ entries ≡ es'

pub record OneMore (lived : List ℕ → List JournalEntry → Type 0) (payload : List ℕ)
    (es : List JournalEntry) : Type 0 where
  pub before : List ℕ
  pub old : List JournalEntry
  pub lived_before : lived before old
  pub life : Life before old payload es

-- so many lives, from an empty card on
unfoldable pub Lives : (lives : ℕ) (payload : List ℕ) (es : List JournalEntry) → Type 0
Lives zero payload es = (payload ≡ []) × (es ≡ [])
Lives (suc k) payload es = OneMore (Lives k) payload es

-- after any number of lives, what lies on the card is replayed as the entries that it stands for
abbrev pub LivesRule : Type 0
LivesRule = (lives : ℕ) (payload : List ℕ) (es : List JournalEntry) → Lives lives payload es → Replays payload es
