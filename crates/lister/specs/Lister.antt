-- What the lister prints of an image: document 01, the end of "Cases". Assumes nothing.
use Rattle.std.specs.Prelude.{Bool, cond, ◌&&◌, List, ℕ, ◌+◌, ◌*◌, ◌/◌, ◌%◌, leb, eqb, length}
use Rattle.std.specs.Prelude.{Option, None, Some}
use Rattle.std.specs.Prelude.{Result, Err}
use Rattle.refusals.specs.declared.Refusal.{Refusal}
use Rattle.refusals.specs.declared.Refusal.TheVariants.{OutputTooShort}
use Rattle.refusals.specs.declared.ImageRefusal.{ImageRefusal}
use Rattle.refusals.specs.declared.ImageRefusal.TheVariants.{ChecksumDiffers, Plain}
use Rattle.refusals.specs.Refusals.{number_of}
use Rattle.refusals.specs.Outcome.{Outcome, gives, refuses, refuses_block, require◌else◌then◌, undamaged◌then◌}
use Rattle.journal_entry.specs.Entry.{JournalEntry, sum_journal_entries}
use Rattle.journal_range.specs.Payload.{range_of}
use Rattle.journal_image.specs.Image.{without_checksums, lowest_damaged}
use Rattle.listing.specs.Text.{entries_text, refused_text}
use Rattle.listing.specs.Listing.{written, written_in, listed_refusal}

-- a refusal's number: 12 of a checksum, wherever the damaged block lies
abbrev pub image_number_of : ImageRefusal → ℕ
image_number_of (ChecksumDiffers block) = 12
image_number_of (Plain why) = number_of why

-- what comes after a call: its refusal, or what its result leads to
abbrev pub and_then : {A B : Type 0} → Outcome A → (A → Outcome B) → Outcome B
and_then (gives a) f = f a
and_then (refuses number) f = refuses number
and_then (refuses_block number block) f = refuses_block number block

-- the blocks of an image whose checksums all agree; there is room for their payload, so 9 cannot occur
unfoldable pub stripped : (image : List ℕ) → Outcome ℕ
stripped image =
    let blocks = length image / 4096 in
    require eqb (length image % 4096) 0 else 11 then
    undamaged lowest_damaged blocks image then
    gives blocks

-- the last row: a range that does not read is 14
abbrev pub unless_unreadable : Option (List JournalEntry) → Outcome (List JournalEntry)
unless_unreadable None = refuses 14
unless_unreadable (Some es) = gives es

-- the entries of an image of at most 61,440 bytes
unfoldable pub image_entries : (image : List ℕ) → Outcome (List JournalEntry)
image_entries image =
    require leb (length image) 61440 else 13 then
    and_then (stripped image) λ blocks. unless_unreadable (range_of (without_checksums blocks image))

-- the entries' text, or `refused` and the number alone
abbrev pub outcome_text : Outcome (List JournalEntry) → List ℕ
outcome_text (gives es) = entries_text es
outcome_text (refuses number) = refused_text number
outcome_text (refuses_block number block) = refused_text number

unfoldable pub listing : (image : List ℕ) → List ℕ
listing image = outcome_text (image_entries image)

-- the text of a range's entries, by way of a replay buffer of `room` bytes
abbrev pub listed_range : Option (List JournalEntry) → (room : ℕ) (text : List ℕ) → Result ℕ Refusal × List ℕ
listed_range None room text = listed_refusal 14 text
listed_range (Some es) room text =
    cond (leb (sum_journal_entries es) room) (written_in (2 * sum_journal_entries es + 32) (entries_text es) text)
    (Err OutputTooShort, text)

unfoldable pub listed_payload : (payload : List ℕ) (room : ℕ) (text : List ℕ) → Result ℕ Refusal × List ℕ
listed_payload payload room text = listed_range (range_of payload) room text

-- 15 blocks of payload, and twice that with a line for the count
abbrev pub room_suffices : (payload replay text : ℕ) → Bool
room_suffices payload replay text = leb 60960 payload && leb 60960 replay && leb 121952 text

-- the answer and the text, for lent buffers of any length
unfoldable pub listed_image : (image : List ℕ) (payload replay : ℕ) (text : List ℕ) → Result ℕ Refusal × List ℕ
listed_image image payload replay text =
    cond (room_suffices payload replay (length text)) (written (listing image) text) (Err OutputTooShort, text)
