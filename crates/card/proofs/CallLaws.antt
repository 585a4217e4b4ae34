-- Each row of the calls, as the code comes to it. Assumes nothing.
use mathlib.Core.Path.{◌≡◌, refl, sym, ap, ◌∙◌}
use mathlib.Core.Bool.{Bool, true, false}
use mathlib.Core.List.{List, ◌++◌}
use Rattle.std.specs.Prelude.{None, Some, Ok, Err}
use Prim.Native.Nat.{ℕ, ◌+◌, ◌*◌, ◌≤◌, ◌<◌}
use native.Mathlib.Omega.{arith}
use borrow.Author.Tests.{le-leb, lt-leb, leb-true, eqb-true}
use lib.ListN.{length, take, drop}
use Rattle.refusals.specs.Outcome.{Outcome, gives, refuses, refuses_block, require◌else◌then◌}
use Rattle.refusals.proofs.Tests.{impossible}
use Rattle.refusals.specs.Answers.{image_outcome_of}
use Rattle.refusals.specs.declared.ImageRefusal.{ImageRefusal}
use Rattle.refusals.specs.declared.ImageRefusal.TheVariants.{ChecksumDiffers, Plain}
use Rattle.refusals.specs.declared.Refusal.TheVariants.{OutputTooShort}
use Rattle.refusals.proofs.Rows.{undamaged_given}
use Rattle.refusals.proofs.Outcomes.{refuses_same, require_told}
use Rattle.disk_layout.specs.DiskLayout.{blocks_in_range}
use Rattle.disk_layout.specs.JournalInterval.{interval, valid_journal_interval}
use Rattle.disk_layout.proofs.Intervals.{range_facts}
use Rattle.journal_image.specs.Image.{same_bytes, payloads_over, lowest_damaged}
use Rattle.journal_image.proofs.Damaged.{lowest_told}
use Rattle.card.specs.Superblock.{superblock}
use Rattle.card.specs.Card.{card_sized, live_start, live_len, formed, live_image}
use Rattle.card.specs.Answers.{ComesTo}
use Rattle.card.specs.Calls.{rewritten, format_call, formatted, formed_call, find_call, found_output, store_call}
use Rattle.card.specs.Calls.{release_call}
use Rattle.card.proofs.Formed.{formed_told, rewritten_is}
use Rattle.card.proofs.Exactly.{find_rows, find_exactly}

pub sized_long : (n : ℕ) (card : List ℕ) → card_sized n card ≡ true → 8192 ≤ length card
sized_long n card h = let e = eqb-true (length card) ((2 + n) * 4096) h in omega arith

-- what the code puts back
pub rewritten_back : (card y : List ℕ) (start len : ℕ) → 4096 ≤ length card → y ≡ superblock start len
    → y ++ drop 4096 card ≡ rewritten card start len
rewritten_back card y start len h e = ap (λ (l : List ℕ). l ++ drop 4096 card) e ∙ sym (rewritten_is card start len h)

-- Is it formed?

module _ (n : ℕ) (card : List ℕ) where
  pub formed_short : card_sized n card ≡ false → false ≡ formed n card
  unfolding formed
  formed_short h = rw h

  module _ (sized : card_sized n card ≡ true) (start len : ℕ) (s : start ≡ live_start card)
      (l : len ≡ live_len card) where
    pub formed_other : same_bytes (take 4096 card) (superblock start len) ≡ false → false ≡ formed n card
    unfolding formed
    formed_other h = rw (sized, ← s, ← l, h)

    pub formed_named : same_bytes (take 4096 card) (superblock start len) ≡ true
        → valid_journal_interval n (interval start len) ≡ formed n card
    unfolding formed
    formed_named h = rw (sized, ← s, ← l, h)

pub ruleset formed_rows = (formed_other, formed_named, sized_long)

-- ROWS 1 AND 18: what fails them is every call's answer

abbrev both_rows : (r f : Bool) → Outcome (Unit {0})
both_rows r f = require r else 1 then require f else 18 then gives tt

unsized : (r s f : Bool) (k : ℕ) → (s ≡ false → f ≡ false) → refuses k ≡ both_rows r s → refuses k ≡ both_rows r f
unsized false s f k h e = e
unsized true true f k h e = impossible cc
unsized true false f k h e = rw (h refl) e

unformed : {A : Type 0} (r f : Bool) (k : ℕ) (o : Outcome A) → refuses k ≡ both_rows r f
    → refuses k ≡ (require r else 1 then require f else 18 then o)
unformed false f k o e = ap refuses (refuses_same e)
unformed true true k o e = impossible cc
unformed true false k o e = ap refuses (refuses_same e)

module _ (n : ℕ) (card : List ℕ) where
  pub sized_told : gives tt ≡ format_call n card → (blocks_in_range n ≡ true) × (card_sized n card ≡ true)
  unfolding format_call
  sized_told e = require_told _ 1 _ tt (sym e) λ range e₁. require_told _ 18 _ tt e₁ λ sized e₂. (range, sized)

  pub formed_unsized : (k : ℕ) → refuses k ≡ format_call n card → refuses k ≡ formed_call n card
  unfolding format_call formed_call
  formed_unsized k e = unsized _ _ _ k (λ h. sym (formed_short n card h)) e

  pub formed_18 : blocks_in_range n ≡ true → formed n card ≡ false → refuses 18 ≡ formed_call n card
  unfolding formed_call
  formed_18 range h = rw (range, h)

  module _ (k : ℕ) (e : refuses k ≡ formed_call n card) where
    pub find_unformed : (out : List ℕ) → refuses k ≡ find_call n card out
    unfolding formed_call find_call
    find_unformed out = unformed _ _ k _ e

    pub store_unformed : (image : List ℕ) (made : ℕ) → refuses k ≡ store_call n card image made
    unfolding formed_call store_call
    store_unformed image made = unformed _ _ k _ e

    pub release_unformed : refuses k ≡ release_call n card
    unfolding formed_call release_call
    release_unformed = unformed _ _ k _ e

pub ruleset opened = (sized_told, formed_unsized)

-- FORMAT

module _ (n : ℕ) (card : List ℕ) where
  pub format_long : gives tt ≡ format_call n card → 4096 ≤ length card
  format_long e = let h = sized_long n card (sized_told n card e).1 in omega arith

  pub format_kept : (k : ℕ) → refuses k ≡ format_call n card → card ≡ formatted n card
  unfolding formatted
  format_kept k e = rw (← e)

  pub format_written : gives tt ≡ format_call n card → (after : List ℕ) → after ≡ rewritten card 0 0
      → after ≡ formatted n card
  unfolding formatted
  format_written e after is = rw (← e) is

pub ruleset format_bytes = (format_kept, format_written, format_long)

-- FIND

module _ (n : ℕ) (card : List ℕ) (room : ℕ) where
  module _ (range : blocks_in_range n ≡ true) where
    module _ (is : formed n card ≡ true) where
      pub find_9 : room < 4064 * live_len card → ComesTo (find_call n card) room (Err (Plain OutputTooShort))
      find_9 h out e =
          sym (find_rows n card out ∙ rw (range, is, lt-leb (4064 * live_len card) (length out) (omega arith)))

      module _ (fits : 4064 * live_len card ≤ room) where
        pub find_12 : (block : ℕ) → lowest_damaged (live_len card) (live_image card) ≡ Some block
            → ComesTo (find_call n card) room (Err (ChecksumDiffers block))
        find_12 block h out e =
            sym (find_rows n card out ∙ rw (range, is, le-leb (4064 * live_len card) (length out) (omega arith), h))

        pub find_blocks : (k : ℕ) → k ≡ live_len card → lowest_damaged (live_len card) (live_image card) ≡ None
            → ComesTo (find_call n card) room (Ok k)
        find_blocks k same h out e =
            ap gives same
            ∙ sym (find_rows n card out ∙ rw (range, is, le-leb (4064 * live_len card) (length out) (omega arith), h))

pub ruleset find_answers = (find_9, find_12, find_blocks)

-- what is handed out
module _ (n : ℕ) (card out : List ℕ) where
  pub find_kept : (why : ImageRefusal) → image_outcome_of (Err why) ≡ find_call n card out
      → out ≡ found_output n card out
  unfolding found_output
  find_kept (ChecksumDiffers block) e = rw (← e)
  find_kept (Plain why) e = rw (← e)

  pub record Finding (k : ℕ) : Type 0 where
    pub few : n ≤ 1024
    pub is : formed n card ≡ true
    pub room : 4064 * live_len card ≤ length out
    pub count : live_len card ≡ k

  module _ (k : ℕ) (e : gives k ≡ find_call n card out) where
    pub find_told : Finding k
    find_told =
        let (agrees, (range, (is, (room, done))), count) =
        undamaged_given _ _ _ _ _ (find_exactly n card out) k (sym e) in
        record { few = (range_facts n range).1; is = is; room = leb-true _ _ room; count = count }

    pub find_given : (after : List ℕ) → after ≡ payloads_over (live_len card) (live_image card) out
        → after ≡ found_output n card out
    unfolding found_output
    find_given after is = rw (← e, ← find_told.count) is

  -- 12's block is one of the live ones
  pub find_below : (number block : ℕ) → find_call n card out ≡ refuses_block number block → block < 1024
  find_below number block e =
      let ((range, (is, (room, done))), twelve, named) = (find_exactly n card out).named_told number block e in
      omega (
        arith,
        (lowest_told (live_len card) (live_image card) (Some block) named).0,
        (formed_told n card is).len_in,
        (range_facts n range).1,
      )
