-- A card: (2 + N) × 4096 bytes, block 0, block 1 which is unused, and the journal from byte 8,192 on. Document 02,
-- paper 3. Assumes nothing.
use Rattle.std.specs.Prelude.{Bool, ◌&&◌, List, ℕ, ◌+◌, ◌-◌, ◌*◌, eqb, length, take, drop}
use Rattle.disk_layout.specs.declared.JournalInterval.{JournalInterval}
use Rattle.disk_layout.specs.DiskLayout.{journal_start_addr, journal_point}
use Rattle.disk_layout.specs.JournalInterval.{interval, valid_journal_interval}
use Rattle.journal_entry.specs.Places.{word_at}
use Rattle.journal_image.specs.Image.{same_bytes, without_checksums}
use Rattle.journal_ring.specs.Ring.{cyclic_slice}
use Rattle.card.specs.Superblock.{superblock}

-- "a lent slice of (2 + N) × 4096 bytes"
abbrev pub card_sized : (n : ℕ) (card : List ℕ) → Bool
card_sized n card = eqb (length card) ((2 + n) * 4096)

-- the numbers at the places of start and length in block 0: behind 32 bytes of checksum, 4 of length and 2 of kind.
-- They count where the card is formed
unfoldable pub live_start : (card : List ℕ) → ℕ
live_start card = word_at card 38

unfoldable pub live_len : (card : List ℕ) → ℕ
live_len card = word_at card 42

abbrev pub live : (card : List ℕ) → JournalInterval
live card = interval (live_start card) (live_len card)

-- no 18: the slice's length is right, and block 0 is of this form, "its checksum, zeros and an interval valid for N
-- included"
unfoldable pub formed : (n : ℕ) (card : List ℕ) → Bool
formed n card =
    card_sized n card
    && same_bytes (take 4096 card) (superblock (live_start card) (live_len card))
    && valid_journal_interval n (live card)

-- "has the journal at byte 8,192"
abbrev pub journal_part : (card : List ℕ) → List ℕ
journal_part card = drop journal_start_addr card

-- THE LIVE BLOCKS ARE AN IMAGE: those of the interval, in order, going on at block 0 of the journal behind block N - 1
unfoldable pub live_image : (card : List ℕ) → List ℕ
live_image card = cyclic_slice (journal_part card) (4096 * live_start card) (4096 * live_len card)

-- its part up to the region's end, and its part from block 0 on: the runs of the card in which it lies
unfoldable pub live_front : (card : List ℕ) → List ℕ
live_front card = take (4096 * live_len card) (drop (journal_point (live_start card)) card)

unfoldable pub live_back : (card : List ℕ) → List ℕ
live_back card = take (4096 * live_len card - length (live_front card)) (journal_part card)

-- and their payload
unfoldable pub live_payload : (card : List ℕ) → List ℕ
live_payload card = without_checksums (live_len card) (live_image card)
