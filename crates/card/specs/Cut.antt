-- What is found on a card at a cut: document 02, paper 3. Assumes nothing.
use Rattle.std.specs.Prelude.{◌≡◌, cond, List, [], ◌∷◌, ◌++◌, ℕ, zero, suc, ◌+◌, ◌*◌, ◌≤◌, leb, length, take}
use Rattle.std.specs.Prelude.{Some}
use Rattle.refusals.specs.Outcome.{gives}
use Rattle.journal_entry.specs.Entry.{JournalEntry}
use Rattle.journal_range.specs.Payload.{parse_payload}
use Rattle.journal_image.specs.Strip.{strip_call, stripped_output}
use Rattle.card.specs.Card.{live_start, live_len}
use Rattle.card.specs.Calls.{find_call, found_output, image_blocks, store_left, store_call, stored}

-- the live range of a card checks and reads as a list: into every buffer that takes its payload, find hands out so
-- many blocks, and these read as it
pub record Finds (n : ℕ) (card : List ℕ) (es : List JournalEntry) : Type 0 where
  pub blocks : ℕ
  pub gives_blocks : (out : List ℕ) → 4064 * blocks ≤ length out → find_call n card out ≡ gives blocks
  pub reads : (out : List ℕ) → 4064 * blocks ≤ length out
      → parse_payload (take (4064 * blocks) (found_output n card out)) ≡ Some es

-- the same of an image, by strip
pub record Strips (image : List ℕ) (es : List JournalEntry) : Type 0 where
  pub gives_blocks : (out : List ℕ) → 4064 * image_blocks image ≤ length out
      → strip_call image out ≡ gives (image_blocks image)
  pub reads : (out : List ℕ) → 4064 * image_blocks image ≤ length out
      → parse_payload (take (4064 * image_blocks image) (stripped_output image out)) ≡ Some es

-- the card after the calls told 0, 1, 2, .. , `calls` of them, with no other writer of the slice
unfoldable pub after_calls : (n : ℕ) (card image : List ℕ) (calls : ℕ) → List ℕ
after_calls n card image zero = card
after_calls n card image (suc m) = stored n (after_calls n card image m) image m

-- at a cut behind `calls` of them: the call is accepted, and "what is found at a cut is the old list before the
-- last store, and the old list followed by the image's after it"
pub record AtCut (n : ℕ) (card image : List ℕ) (old new : List JournalEntry) (calls : ℕ) : Type 0 where
  pub accepted : store_call n (after_calls n card image calls) image calls
      ≡ gives (store_left (image_blocks image) calls)
  pub found : Finds n (after_calls n card image calls) (cond (leb calls (image_blocks image)) old (old ++ new))
  -- the live interval is longer by the image's blocks from the last store on
  pub start : live_start (after_calls n card image calls) ≡ live_start card
  pub len : live_len (after_calls n card image calls)
      ≡ live_len card + cond (leb calls (image_blocks image)) 0 (image_blocks image)
  -- once all stores are made nothing changes any more
  pub settled : image_blocks image + 1 ≤ calls
      → after_calls n card image calls ≡ after_calls n card image (image_blocks image + 1)

-- THE CUT THEOREM: "If the live range checked and read before, and the calls are told the same image and 0, 1, 2
-- and on, .."
abbrev pub CutRule : Type 0
CutRule =
    (n : ℕ) (card image : List ℕ) (old new : List JournalEntry) (calls : ℕ)
    → Finds n card old → Strips image new → live_len card + image_blocks image ≤ n → AtCut n card image old new calls

-- images stored one after the other, each by all its calls
unfoldable pub stored_all : (n : ℕ) (card : List ℕ) (images : List (List ℕ)) → List ℕ
stored_all n card [] = card
stored_all n card (i ∷ is) = stored_all n (after_calls n card i (suc (image_blocks i))) is

abbrev pub all_blocks : (images : List (List ℕ)) → ℕ
all_blocks [] = 0
all_blocks (i ∷ is) = image_blocks i + all_blocks is

-- each of them checks and reads, as its own list
abbrev pub AllStrip : (images : List (List ℕ)) (lists : List (List JournalEntry)) → Type 0
AllStrip [] [] = Unit {0}
AllStrip [] (l ∷ ls) = ⊥
AllStrip (i ∷ is) [] = ⊥
AllStrip (i ∷ is) (l ∷ ls) = Strips i l × AllStrip is ls
