-- What a call that stores comes to, and what it leaves, where the image checks and reads and there is room. Assumes
-- nothing.
use mathlib.Core.Path.{◌≡◌, refl, ◌∙◌}
use mathlib.Core.Bool.{Bool, true, false, cond, ◌&&◌}
use mathlib.Core.List.{List}
use Prim.Native.Nat.{ℕ, ◌+◌, ◌≤◌, ◌<◌}
use native.Mathlib.Omega.{arith}
use borrow.Author.Tests.{le-leb, lt-leb, lt-ltb, le-ltb, eq-eqb}
use lib.Dec.{leb}
use Rattle.refusals.specs.Outcome.{gives}
use Rattle.disk_layout.specs.DiskLayout.{blocks_in_range}
use Rattle.journal_entry.specs.Entry.{JournalEntry}
use Rattle.card.specs.Card.{live_start, live_len, formed}
use Rattle.card.specs.Calls.{image_blocks, store_left, store_call, rewritten, with_block, with_store, stored}
use Rattle.card.proofs.Live.{Checked}

pub left_is : (k made : ℕ) → 1 ≤ k → made ≤ k → store_left k made ≡ true
unfolding store_left
left_is k made a b = rw (le-leb _ _ a, le-leb _ _ b)

pub left_past : (k made : ℕ) → k < made → store_left k made ≡ false
unfolding store_left
left_past k made h = rw (lt-leb _ _ h) (go (leb 1 k))
  where
    go : (t : Bool) → t && false ≡ false
    go true = refl
    go false = refl

pub left_empty : (k made : ℕ) → k ≡ 0 → store_left k made ≡ false
unfolding store_left
left_empty k made h = let e : k < 1 = omega arith in rw (lt-leb 1 k e)

picked : (t : Bool) → cond t (gives true) (gives false) ≡ gives t
picked true = refl
picked false = refl

-- none is left: nothing is stored, and 19 is not tested
module _ (n : ℕ) (card image : List ℕ) (new : List JournalEntry) (range : blocks_in_range n ≡ true)
    (is : formed n card ≡ true) (c : Checked image new)
    (made : ℕ) (none_left : store_left (image_blocks image) made ≡ false) where
  pub none_accepted : store_call n card image made ≡ gives false
  unfolding store_call
  none_accepted = rw (range, is, eq-eqb _ _ c.whole, c.agrees, c.reads, none_left)

  pub stored_none : stored n card image made ≡ card
  unfolding stored with_store
  stored_none = rw (none_accepted, none_left)

module _ (n : ℕ) (card image : List ℕ) (new : List JournalEntry) (range : blocks_in_range n ≡ true)
    (is : formed n card ≡ true) (c : Checked image new)
    (room : live_len card + image_blocks image ≤ n) (made : ℕ) where
  abbrev k : ℕ
  k = image_blocks image

  pub store_accepted : store_call n card image made ≡ gives (store_left k made)
  unfolding store_call
  store_accepted =
      rw (range, is, eq-eqb _ _ c.whole, c.agrees, c.reads, le-leb _ _ room) (picked (store_left k made))

  pub stored_is : stored n card image made ≡ with_store n card image made
  unfolding stored
  stored_is = rw store_accepted

  pub stored_block : made < k → stored n card image made ≡ with_block n card image made
  unfolding with_store
  stored_block h = stored_is ∙ rw (left_is k made (omega arith) (omega arith), lt-ltb _ _ h)

  pub stored_last : 1 ≤ k → made ≡ k → stored n card image made ≡ rewritten card (live_start card) (live_len card + k)
  unfolding with_store
  stored_last h e = stored_is ∙ rw (left_is k made h (omega arith), le-ltb made k (omega arith))
