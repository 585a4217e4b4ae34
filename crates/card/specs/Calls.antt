-- What each call on a card comes to, and the card's bytes after it: document 02, paper 3. Assumes nothing.
-- (18 and 19 are that paper's numbers, the others document 01's.)
use Rattle.std.specs.Prelude.{Bool, true, false, cond, ◌&&◌, List, ℕ, ◌+◌, ◌-◌, ◌*◌, ◌/◌, ◌%◌, leb, ltb, eqb, length}
use Rattle.std.specs.Prelude.{take, drop}
use Rattle.words.specs.Lists.{splice}
use Rattle.refusals.specs.Outcome.{Outcome, gives, require◌else◌then◌, given◌else◌then◌, undamaged◌then◌, bytes_after}
use Rattle.disk_layout.specs.DiskLayout.{blocks_in_range, journal_point}
use Rattle.journal_entry.specs.Places.{word_at}
use Rattle.journal_range.specs.Payload.{parse_payload}
use Rattle.journal_image.specs.Image.{without_checksums, lowest_damaged}
use Rattle.journal_image.specs.Strip.{strip_call, output_of}
use Rattle.journal_ring.specs.Ring.{advance}
use Rattle.card.specs.Superblock.{superblock}
use Rattle.card.specs.Card.{card_sized, live_start, live_len, formed, live_image, live_payload}

-- block 0 stored for an interval: "Every block outside the written ones is unchanged."
unfoldable pub rewritten : (card : List ℕ) (start len : ℕ) → List ℕ
rewritten card start len = splice card 0 (superblock start len)

-- the rows that each call but format tests first
unfoldable pub formed_call : (n : ℕ) (card : List ℕ) → Outcome (Unit {0})
formed_call n card =
    require blocks_in_range n else 1 then
    require formed n card else 18 then
    gives tt

-- FORMAT. "Formatting writes block 0 alone and makes the live interval (0, 0)"; it tests 1, "then only the length"
unfoldable pub format_call : (n : ℕ) (card : List ℕ) → Outcome (Unit {0})
format_call n card =
    require blocks_in_range n else 1 then
    require card_sized n card else 18 then
    gives tt

unfoldable pub formatted : (n : ℕ) (card : List ℕ) → List ℕ
formatted n card = bytes_after (format_call n card) (rewritten card 0 0) card

-- FIND is strip of the live image, behind 1 and 18: "Finding gives 18, then 9, then 12". (The live image is whole
-- blocks: strip's 11 is never given.)
unfoldable pub find_call : (n : ℕ) (card out : List ℕ) → Outcome ℕ
find_call n card out =
    require blocks_in_range n else 1 then
    require formed n card else 18 then
    strip_call (live_image card) out

-- "Finding hands out the live blocks' payload, in order, to a lent buffer"
unfoldable pub found_output : (n : ℕ) (card out : List ℕ) → List ℕ
found_output n card out = output_of (find_call n card out) (live_image card) out

-- STORE. The blocks of an image
abbrev pub image_blocks : (image : List ℕ) → ℕ
image_blocks image = length image / 4096

-- of k + 1 stores for k blocks so many are made: "it makes the next, and none where that is all or more, or the
-- image has no blocks"
unfoldable pub store_left : (blocks made : ℕ) → Bool
store_left blocks made = leb 1 blocks && leb made blocks

-- whether a store was made
unfoldable pub store_call : (n : ℕ) (card image : List ℕ) (made : ℕ) → Outcome Bool
store_call n card image made =
    let blocks = image_blocks image in
    require blocks_in_range n else 1 then
    require formed n card else 18 then
    require eqb (length image % 4096) 0 else 11 then
    undamaged lowest_damaged blocks image then
    given parse_payload (without_checksums blocks image) else 14 then λ new.
    cond (store_left blocks made)
    (require leb (live_len card + blocks) n else 19 then gives true)
    (gives false)

-- block `made` of the image, at block (start + length + made) mod N of the journal
unfoldable pub with_block : (n : ℕ) (card image : List ℕ) (made : ℕ) → List ℕ
with_block n card image made =
    splice card (journal_point (advance n (live_start card) (live_len card + made)))
    (take 4096 (drop (4096 * made) image))

-- the next store: "puts it, first block first, cyclically behind the live interval, and only then rewrites block 0"
unfoldable pub with_store : (n : ℕ) (card image : List ℕ) (made : ℕ) → List ℕ
with_store n card image made =
    let blocks = image_blocks image in
    cond (store_left blocks made)
    (cond (ltb made blocks)
    (with_block n card image made)
    (rewritten card (live_start card) (live_len card + blocks)))
    card

unfoldable pub stored : (n : ℕ) (card image : List ℕ) (made : ℕ) → List ℕ
stored n card image made = bytes_after (store_call n card image made) (with_store n card image made) card

-- RELEASE. The blocks of the first batch: its header's second word
unfoldable pub first_blocks : (payload : List ℕ) → ℕ
first_blocks payload = word_at payload 4

-- how many blocks were dropped. "Release gives 18, then 8 on an empty interval, then 12, then 14, over the whole
-- live range"
unfoldable pub release_call : (n : ℕ) (card : List ℕ) → Outcome ℕ
release_call n card =
    require blocks_in_range n else 1 then
    require formed n card else 18 then
    require leb 1 (live_len card) else 8 then
    undamaged lowest_damaged (live_len card) (live_image card) then
    given parse_payload (live_payload card) else 14 then λ old.
    gives (first_blocks (live_payload card))

-- "Releasing drops the first batch from the live interval"
unfoldable pub without_first : (n : ℕ) (card : List ℕ) → List ℕ
without_first n card =
    let dropped = first_blocks (live_payload card) in
    rewritten card (advance n (live_start card) dropped) (live_len card - dropped)

unfoldable pub released : (n : ℕ) (card : List ℕ) → List ℕ
released n card = bytes_after (release_call n card) (without_first n card) card
