-- What the code finds before it writes, in the papers' terms. Assumes nothing.
use Rattle.std.specs.Prelude.{◌≡◌, List, ℕ, ◌+◌, ◌≤◌, length}
use Rattle.std.specs.Prelude.{Result}
use Rattle.words.specs.Lists.{splice}
use Rattle.refusals.specs.declared.ImageRefusal.{ImageRefusal}
use Rattle.refusals.specs.Answers.{image_outcome_of}
use Rattle.refusals.specs.Outcome.{Outcome}
use Rattle.card.specs.Calls.{rewritten}
use Rattle.card.specs.declared.next_store.NextStore.{NextStore}
use Rattle.card.specs.declared.next_store.NextStore.TheVariants.{Block, Interval}

-- what a call comes to with whatever output of so many bytes, before anything is written
abbrev pub ComesTo : (call : List ℕ → Outcome ℕ) (room : ℕ) (r : Result ℕ ImageRefusal) → Type 0
ComesTo call room r = (out : List ℕ) → length out ≡ room → image_outcome_of r ≡ call out

-- a store that is to be made is of one block, and the card has it
abbrev pub Fits : NextStore → (card : List ℕ) → Type 0
Fits (Block at bytes) card = (length bytes.now ≡ 4096) × (at + 4096 ≤ length card)
Fits (Interval live) card = 4096 ≤ length card

-- the card behind it
abbrev pub card_with : NextStore → (card : List ℕ) → List ℕ
card_with (Block at bytes) card = splice card at bytes.now
card_with (Interval live) card = rewritten card live.start live.len
