-- The rows of store, as the code comes to them, and the bytes of its stores. Assumes nothing.
use mathlib.Core.Path.{◌≡◌, refl, sym, ap, ◌∙◌}
use mathlib.Core.Bool.{Bool, true, false, cond}
use mathlib.Core.List.{List, ◌++◌}
use Rattle.std.specs.Prelude.{Option, None, Some, Err, is_some}
use Prim.Native.Nat.{ℕ, ◌+◌, ◌-◌, ◌*◌, ◌%◌, ◌≤◌, ◌<◌}
use native.Mathlib.Omega.{arith}
use borrow.Author.Tests.{le-leb, lt-leb, lt-ltb, eq-eqb, ne_eqb, eqb-true, leb-true}
use lib.Dec.{ltb}
use lib.ListN.{length, take, drop, length-drop}
use lib.Seq.{length-take-le, drop-drop}
use Rattle.refusals.specs.Outcome.{Outcome, gives, refuses, refuses_block, into}
use Rattle.refusals.specs.Answers.{image_outcome_of}
use Rattle.refusals.specs.declared.ImageRefusal.{ImageRefusal}
use Rattle.refusals.specs.declared.ImageRefusal.TheVariants.{ChecksumDiffers, Plain}
use Rattle.refusals.proofs.Tests.{impossible}
use Rattle.refusals.proofs.Rows.{undamaged_given}
use Rattle.words.specs.Lists.{splice}
use Rattle.disk_layout.specs.DiskLayout.{blocks_in_range, journal_point}
use Rattle.disk_layout.proofs.Intervals.{range_facts}
use Rattle.journal_entry.specs.Entry.{JournalEntry}
use Rattle.journal_range.specs.Payload.{parse_payload, range_answer, range_of}
use Rattle.journal_range.specs.declared.RangeTotals.{RangeTotals}
use Rattle.journal_image.specs.Image.{lowest_damaged}
use Rattle.journal_image.proofs.Damaged.{lowest_told}
use Rattle.journal_ring.specs.Ring.{advance}
use Rattle.image_range.specs.InPlace.{image_payload}
use Rattle.image_range.proofs.Ranges.{image_range, answered}
use Rattle.card.specs.Card.{live_start, live_len, formed}
use Rattle.card.specs.Calls.{rewritten, image_blocks, store_left, store_call, with_block, with_store, stored}
use Rattle.card.proofs.Exactly.{store_exactly}
use Rattle.card.proofs.Storing.{left_is, left_past, left_empty}

-- What the totals of a payload tell of whether it reads.

unread : (o : Option (List JournalEntry)) → is_some o ≡ false → o ≡ None
unread None e = refl
unread (Some es) e = impossible cc

pub read : {C : Type 0} (o : Option (List JournalEntry)) → is_some o ≡ true
    → ((es : List JournalEntry) → o ≡ Some es → C) → C
read None e k = impossible cc
read (Some es) e k = k es refl

module _ (s p : List ℕ) (is : image_payload s ≡ p) (r : Option RangeTotals)
    (e : r ≡ range_answer (range_of (image_payload s))) where
  reads : is_some r ≡ is_some (parse_payload p)
  reads = ap is_some (e ∙ ap range_answer (image_range s ∙ ap parse_payload is)) ∙ answered (parse_payload p)

  pub payload_unread : is_some r ≡ false → parse_payload p ≡ None
  payload_unread h = unread (parse_payload p) (sym reads ∙ h)

  pub payload_read : {C : Type 0} → is_some r ≡ true
      → ((es : List JournalEntry) → parse_payload p ≡ Some es → C) → C
  payload_read h k = read (parse_payload p) (sym reads ∙ h) k

-- Rows.

module _ (n : ℕ) (card image : List ℕ) (made : ℕ) where
  abbrev call : Outcome Bool
  call = store_call n card image made

  module _ (range : blocks_in_range n ≡ true) where
    module _ (is : formed n card ≡ true) where
      pub store_11 : (length image % 4096 ≡ 0 → ⊥) → refuses 11 ≡ call
      unfolding store_call
      store_11 h = rw (range, is, ne_eqb _ _ h)

      module _ (whole : length image % 4096 ≡ 0) where
        pub store_12 : (block : ℕ) → lowest_damaged (image_blocks image) image ≡ Some block
            → refuses_block 12 block ≡ call
        unfolding store_call
        store_12 block h = rw (range, is, eq-eqb _ _ whole, h)

        module _ (agrees : lowest_damaged (image_blocks image) image ≡ None) where
          pub store_14 : parse_payload (image_payload image) ≡ None → refuses 14 ≡ call
          unfolding store_call image_payload
          store_14 h = rw (range, is, eq-eqb _ _ whole, agrees, h)

          module _ (new : List JournalEntry) (reads : parse_payload (image_payload image) ≡ Some new) where
            none_left : store_left (image_blocks image) made ≡ false → gives false ≡ call
            unfolding store_call image_payload
            none_left h = rw (range, is, eq-eqb _ _ whole, agrees, reads, h)

            pub store_empty : image_blocks image < 1 → gives false ≡ call
            store_empty h = none_left (left_empty (image_blocks image) made (omega arith))

            pub store_all : image_blocks image < made → gives false ≡ call
            store_all h = none_left (left_past (image_blocks image) made h)

            module _ (some-blocks : 1 ≤ image_blocks image) (left : made ≤ image_blocks image) where
              pub store_19 : n < live_len card + image_blocks image → refuses 19 ≡ call
              unfolding store_call image_payload
              store_19 h = rw (
                range,
                is,
                eq-eqb _ _ whole,
                agrees,
                reads,
                left_is (image_blocks image) made some-blocks left,
                lt-leb _ _ h,
              )

              pub store_made : live_len card + image_blocks image ≤ n → gives true ≡ call
              unfolding store_call image_payload
              store_made h = rw (
                range,
                is,
                eq-eqb _ _ whole,
                agrees,
                reads,
                left_is (image_blocks image) made some-blocks left,
                le-leb _ _ h,
              )

pub ruleset image_rows = (store_11, store_12)

-- What the outcome tells of the rows, and the bytes.

module _ (n : ℕ) (card image : List ℕ) (made : ℕ) where
  abbrev k : ℕ
  k = image_blocks image

  -- it gives whether a store is left
  given_left : (made_one : Bool) → store_call n card image made ≡ gives made_one → store_left k made ≡ made_one
  given_left made_one e = (undamaged_given _ _ _ _ _ (store_exactly n card image made) made_one e).2

  -- no store is made: nothing changes
  pub store_kept : {A : Type 0} (f : A → Bool) (why : ImageRefusal)
      → into f (image_outcome_of (Err why)) ≡ store_call n card image made → card ≡ stored n card image made
  unfolding stored
  store_kept f (ChecksumDiffers block) e = rw (← e)
  store_kept f (Plain why) e = rw (← e)

  pub store_none : gives false ≡ store_call n card image made → card ≡ stored n card image made
  unfolding stored with_store
  store_none e = rw (← e, given_left false (sym e))

  -- 12's block is one of the image's
  pub store_below : (number block : ℕ) → store_call n card image made ≡ refuses_block number block → block < k
  store_below number block e =
      (lowest_told k image (Some block) ((store_exactly n card image made).named_told number block e).2).0

  pub record Next : Type 0 where
    pub few : n ≤ 1024
    pub is : formed n card ≡ true
    pub whole : length image % 4096 ≡ 0
    pub left : store_left k made ≡ true
    pub room : live_len card + k ≤ n

  module _ (e : gives true ≡ store_call n card image made) where
    pub store_told : Next
    store_told =
        let (agrees, (range, (is, (whole, (reads, (room, done))))), left) =
        undamaged_given _ _ _ _ _ (store_exactly n card image made) true (sym e) in
        record {
          few = (range_facts n range).1;
          is = is;
          whole = eqb-true _ _ whole;
          left = left;
          room = leb-true _ _ (rw left at room);
        }

    pub store_next : (after : List ℕ)
        → after ≡ cond (ltb made k) (with_block n card image made)
        (rewritten card (live_start card) (live_len card + k))
        → after ≡ stored n card image made
    unfolding stored with_store
    store_next after is = rw (← e, store_told.left) is

pub ruleset none_made = (store_kept, store_none)

-- The bytes of a block's store, in the words of the part that is lent.

abbrev pub lent : (made : ℕ) (image : List ℕ) → List ℕ
lent made image = take (4096 * made + 4096 - 4096 * made) (drop (4096 * made) image)

lent_cut : (made : ℕ) → 4096 * made + 4096 - 4096 * made ≡ 4096
lent_cut made = omega arith

pub lent_size : (made : ℕ) (image : List ℕ) → 4096 * made + 4096 ≤ length image → length (lent made image) ≡ 4096
lent_size made image h =
    rw (lent_cut made) (length-take-le 4096 (drop (4096 * made) image) (rw length-drop (omega arith)))

pub block_put : (n : ℕ) (card image : List ℕ) (made start len p : ℕ) → start ≡ live_start card → len ≡ live_len card
    → p ≡ advance n start (len + made) → splice card (8192 + 4096 * p) (lent made image) ≡ with_block n card image made
unfolding with_block
block_put n card image made start len p s l place =
    let at : journal_point (advance n (live_start card) (live_len card + made)) ≡ 8192 + 4096 * p =
    rw (← s, ← l, ← place) (omega arith) in
    rw (at, lent_cut made)

-- a block where it is put
pub put_block : (card b y : List ℕ) (at : ℕ) → length b ≡ 4096 → y ≡ b
    → take at card ++ (y ++ drop (at + 4096 - at) (drop at card)) ≡ splice card at b
unfolding splice
put_block card b y at size is =
    let rest : at + (at + 4096 - at) ≡ at + length b = omega arith in
    rw (is, drop-drop (at + 4096 - at) at card, rest)

-- a block's store
pub by_block : (made k : ℕ) (x y after : List ℕ) → made < k → after ≡ x → after ≡ cond (ltb made k) x y
by_block made k x y after h e = rw (lt-ltb _ _ h) e
