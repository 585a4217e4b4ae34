-- From append to the card and back: images of a history, stored in order on a formatted card with a cut anywhere in
-- the last of them, are found and replayed. Document 02, paper 3. Assumes nothing.
use Rattle.std.specs.Prelude.{◌≡◌, true, cond, List, [], ◌∷◌, ◌++◌, map, ℕ, ◌+◌, ◌*◌, ◌≤◌, leb, length, take}
use Rattle.refusals.specs.Outcome.{gives}
use Rattle.disk_layout.specs.DiskLayout.{blocks_in_range}
use Rattle.journal_entry.specs.Entry.{JournalEntry}
use Rattle.journalist.specs.declared.Journalist.{Journalist}
use Rattle.journalist.specs.Calls.{open_call}
use Rattle.history.specs.Calls.{Call}
use Rattle.history.specs.History.{Image, World, opened, run}
use Rattle.history.specs.Crash.{Replays, EntriesOf}
use Rattle.card.specs.Card.{card_sized}
use Rattle.card.specs.Calls.{formatted, find_call, found_output}
use Rattle.card.specs.Cut.{Finds, after_calls, stored_all}

-- the bytes that were handed out, image by image
abbrev pub bytes_of : List Image → List (List ℕ)
bytes_of is = map (λ (i : Image). i.bytes) is

-- the blocks of all
abbrev pub added_of : List Image → ℕ
added_of [] = 0
added_of (i ∷ is) = i.added + added_of is

-- the card: formatted, the earlier images stored, and then so many calls of the last one's
unfoldable pub card_at : (n : ℕ) (card : List ℕ) (earlier : List Image) (last : Image) (calls : ℕ) → List ℕ
card_at n card earlier last calls =
    after_calls n (stored_all n (formatted n card) (bytes_of earlier)) last.bytes calls

-- the images whose last store was made: up to that of the last image the earlier ones, from it on all
abbrev pub stored_images : (earlier : List Image) (last : Image) (calls : ℕ) → List Image
stored_images earlier last calls = cond (leb calls last.added) earlier (earlier ++ (last ∷ []))

-- Whatever buffer find hands the live blocks to, they are replayed as this list: set as front and back (one of
-- them, or split at any block), loaded, and handed out by top and pop (`Replays`).
abbrev pub ReplaysFrom : (n : ℕ) (card : List ℕ) (es : List JournalEntry) → Type 0
ReplaysFrom n card es =
    (blocks : ℕ) (out : List ℕ) → find_call n card out ≡ gives blocks
    → Replays (take (4064 * blocks) (found_output n card out)) es

-- what those images handed out (`EntriesOf`, by the plain lists) is found and replayed
pub record OnCard (n : ℕ) (card : List ℕ) (w : World) (cs : List Call) (earlier : List Image) (last : Image)
    (calls : ℕ) : Type 0 where
  pub entries : List JournalEntry
  pub entries_of_lem : EntriesOf w cs [] (stored_images earlier last calls) entries
  pub found : Finds n (card_at n card earlier last calls) entries
  pub replays : ReplaysFrom n (card_at n card earlier last calls) entries

-- Of any history, on any slice of the right length with room for these images; later ones may be handed out
-- already, and not yet stored.
abbrev pub CardRule : Type 0
CardRule =
    (n r : ℕ) (j : Journalist) (ring : List ℕ) (cs : List Call) → open_call n r ≡ gives j → length ring ≡ r
    → (m : ℕ) (card : List ℕ) → blocks_in_range m ≡ true → card_sized m card ≡ true
    → (earlier : List Image) (last : Image) (later : List Image)
    → (run (opened j ring) cs).images ≡ earlier ++ (last ∷ later) → added_of earlier + last.added ≤ m
    → (calls : ℕ) → OnCard m card (opened j ring) cs earlier last calls
