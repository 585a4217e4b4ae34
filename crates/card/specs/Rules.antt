-- What formatting and releasing leave to be found, and which blocks a call leaves alone: document 02, paper 3.
-- Assumes nothing.
use Rattle.std.specs.Prelude.{◌≡◌, true, false, cond, List, [], ◌++◌, ℕ, ◌+◌, ◌*◌, ◌≤◌, ◌<◌, ltb, length, take, drop}
use Rattle.std.specs.Prelude.{Some}
use Rattle.refusals.specs.Outcome.{gives}
use Rattle.disk_layout.specs.DiskLayout.{blocks_in_range}
use Rattle.disk_layout.specs.JournalInterval.{interval, in_cyclic_range}
use Rattle.journal_entry.specs.Entry.{JournalEntry}
use Rattle.journal_range.specs.Payload.{front_batch}
use Rattle.journal_ring.specs.Ring.{advance}
use Rattle.card.specs.Card.{card_sized, live_start, live_len, live, live_payload}
use Rattle.card.specs.Calls.{format_call, formatted, release_call, released, image_blocks, stored}
use Rattle.card.specs.Cut.{Finds}

-- "Formatting .. makes the live interval (0, 0)", and nothing is found
pub record AsFormatted (n : ℕ) (card : List ℕ) : Type 0 where
  pub accepted : format_call n card ≡ gives tt
  pub start : live_start (formatted n card) ≡ 0
  pub len : live_len (formatted n card) ≡ 0
  pub found : Finds n (formatted n card) []

abbrev pub FormatRule : Type 0
FormatRule = (n : ℕ) (card : List ℕ) → blocks_in_range n ≡ true → card_sized n card ≡ true → AsFormatted n card

-- "Releasing drops the first batch from the live interval; its blocks are used again"
pub record AsReleased (n : ℕ) (card : List ℕ) (es : List JournalEntry) : Type 0 where
  -- the first batch: its entries, and its blocks
  pub first : List JournalEntry
  pub blocks : ℕ
  pub batch : front_batch (live_payload card) ≡ Some (first, 4064 * blocks)
  pub some_block : 1 ≤ blocks
  pub accepted : release_call n card ≡ gives blocks
  -- the list begins with them, and what is found is the rest
  pub begins : es ≡ first ++ drop (length first) es
  pub found : Finds n (released n card) (drop (length first) es)
  -- the interval is shorter by those blocks, and none of them is in it
  pub shorter : live_len (released n card) + blocks ≡ live_len card
  pub free : (i : ℕ) → i < n → in_cyclic_range n i (interval (live_start card) blocks) ≡ true
      → in_cyclic_range n i (live (released n card)) ≡ false

abbrev pub ReleaseRule : Type 0
ReleaseRule = (n : ℕ) (card : List ℕ) (es : List JournalEntry) → Finds n card es → 1 ≤ live_len card
    → AsReleased n card es

-- block i of the slice; block i of the journal is block 2 + i of it
abbrev pub block_at : (card : List ℕ) (i : ℕ) → List ℕ
block_at card i = take 4096 (drop (4096 * i) card)

-- the block that a call stores, where it stores one
abbrev pub stored_at : (n : ℕ) (card image : List ℕ) (made : ℕ) → ℕ
stored_at n card image made =
    cond (ltb made (image_blocks image)) (2 + advance n (live_start card) (live_len card + made)) 0

-- "Every block outside the written ones is unchanged", and so is the slice's length: of any call on any slice
pub record Unchanged (n : ℕ) (card : List ℕ) : Type 0 where
  pub format_length : length (formatted n card) ≡ length card
  pub release_length : length (released n card) ≡ length card
  pub store_length : (image : List ℕ) (made : ℕ) → length (stored n card image made) ≡ length card
  pub format_others : (i : ℕ) → 1 ≤ i → block_at (formatted n card) i ≡ block_at card i
  pub release_others : (i : ℕ) → 1 ≤ i → block_at (released n card) i ≡ block_at card i
  pub store_others : (image : List ℕ) (made i : ℕ) → (i ≡ stored_at n card image made → ⊥)
      → block_at (stored n card image made) i ≡ block_at card i
  -- no live block is ever stored to
  pub store_live : (image : List ℕ) (made i : ℕ) → i < n → in_cyclic_range n i (live card) ≡ true
      → block_at (stored n card image made) (2 + i) ≡ block_at card (2 + i)
