-- The rows of release, as the code comes to them. Assumes nothing.
use mathlib.Core.Path.{◌≡◌, sym, ap, ◌∙◌}
use mathlib.Core.Bool.{true}
use mathlib.Core.List.{List}
use Rattle.std.specs.Prelude.{None, Some, Err}
use Prim.Native.Nat.{ℕ, ◌-◌, ◌*◌, ◌≤◌, ◌<◌}
use native.Mathlib.Omega.{arith}
use borrow.Author.Tests.{le-leb, lt-leb, leb-true}
use lib.ListN.{length}
use Rattle.refusals.specs.Outcome.{Outcome, gives, refuses, refuses_block}
use Rattle.refusals.specs.Answers.{image_outcome_of}
use Rattle.refusals.specs.declared.ImageRefusal.{ImageRefusal}
use Rattle.refusals.specs.declared.ImageRefusal.TheVariants.{ChecksumDiffers, Plain}
use Rattle.refusals.proofs.Rows.{undamaged_given}
use Rattle.disk_layout.proofs.Intervals.{range_facts}
use Rattle.disk_layout.specs.DiskLayout.{blocks_in_range}
use Rattle.journal_entry.specs.Entry.{JournalEntry}
use Rattle.journal_entry.specs.Places.{word_at}
use Rattle.journal_range.specs.Payload.{parse_payload}
use Rattle.journal_image.specs.Image.{lowest_damaged}
use Rattle.journal_ring.specs.Ring.{advance}
use Rattle.journal_image.proofs.Payloads.{length_without}
use Rattle.journal_image.proofs.Damaged.{lowest_told}
use Rattle.card.specs.Card.{live_start, live_len, formed, live_image, live_payload}
use Rattle.card.specs.Calls.{rewritten, first_blocks, release_call, released, without_first}
use Rattle.card.proofs.Formed.{formed_told}
use Rattle.card.proofs.Live.{length_live}
use Rattle.card.proofs.Exactly.{release_exactly}
use Rattle.card.proofs.StoreLaws.{read}
use Rattle.card.proofs.Releasing.{split}

-- Rows.

module _ (n : ℕ) (card : List ℕ) where
  abbrev call : Outcome ℕ
  call = release_call n card

  module _ (range : blocks_in_range n ≡ true) where
    module _ (is : formed n card ≡ true) where
      pub release_8 : live_len card < 1 → refuses 8 ≡ call
      unfolding release_call
      release_8 h = rw (range, is, lt-leb _ _ h)

      module _ (some-live : 1 ≤ live_len card) where
        pub release_12 : (block : ℕ) → lowest_damaged (live_len card) (live_image card) ≡ Some block
            → refuses_block 12 block ≡ call
        unfolding release_call
        release_12 block h = rw (range, is, le-leb _ _ some-live, h)

        module _ (agrees : lowest_damaged (live_len card) (live_image card) ≡ None) where
          pub release_14 : parse_payload (live_payload card) ≡ None → refuses 14 ≡ call
          unfolding release_call
          release_14 h = rw (range, is, le-leb _ _ some-live, agrees, h)

          pub release_given : (old : List JournalEntry) → parse_payload (live_payload card) ≡ Some old
              → gives (first_blocks (live_payload card)) ≡ call
          unfolding release_call
          release_given old h = rw (range, is, le-leb _ _ some-live, agrees, h)

pub ruleset live_rows = (release_8, release_12)

-- the first batch's blocks, read where the payload lies
pub release_first : (n : ℕ) (card : List ℕ) → blocks_in_range n ≡ true → formed n card ≡ true → 1 ≤ live_len card
    → lowest_damaged (live_len card) (live_image card) ≡ None → (old : List JournalEntry)
    → parse_payload (live_payload card) ≡ Some old → (p : List ℕ) (d : ℕ) → p ≡ live_payload card → d ≡ word_at p 4
    → gives d ≡ release_call n card
unfolding first_blocks
release_first n card range is some-live agrees old reads p d same e =
    ap gives (e ∙ ap (λ (l : List ℕ). word_at l 4) same) ∙ release_given n card range is some-live agrees old reads

-- What the outcome tells of the rows, and the bytes.

module _ (n : ℕ) (card : List ℕ) where
  -- 12's block is one of the live ones
  pub release_below : (number block : ℕ) → release_call n card ≡ refuses_block number block → block < 1024
  release_below number block e =
      let ((range, (is, (some-live, done))), twelve, named) = (release_exactly n card).named_told number block e in
      omega (
        arith,
        (lowest_told (live_len card) (live_image card) (Some block) named).0,
        (formed_told n card is).len_in,
        (range_facts n range).1,
      )

  abbrev pub Comes : Outcome ℕ → List ℕ → Type 0
  Comes o after = (o ≡ release_call n card) × (after ≡ released n card)

  pub release_kept : (why : ImageRefusal) → image_outcome_of (Err why) ≡ release_call n card → card ≡ released n card
  unfolding released
  release_kept (ChecksumDiffers block) e = rw (← e)
  release_kept (Plain why) e = rw (← e)

  pub record Dropping (d : ℕ) : Type 0 where
    pub few : n ≤ 1024
    pub is : formed n card ≡ true
    pub first : first_blocks (live_payload card) ≡ d
    pub within : d ≤ live_len card

  module _ (d : ℕ) (e : gives d ≡ release_call n card) where
    pub release_told : Dropping d
    unfolding live_payload
    release_told =
        let (agrees, (range, (is, (some-live, (reads, done)))), first) =
        undamaged_given _ _ _ _ _ (release_exactly n card) d (sym e) in
        read (parse_payload (live_payload card)) reads λ es all.
        let l = length_live n card (formed_told n card is) in
        let h = leb-true 1 (live_len card) some-live in
        let p : length (live_payload card) ≡ 4064 * live_len card =
        length_without (live_len card) (live_image card) (omega arith) in
        let m = (split (live_payload card) es (omega arith) (omega arith) all).most in
        record { few = (range_facts n range).1; is = is; first = first; within = omega arith }

    pub release_dropped : (after : List ℕ)
        → after ≡ rewritten card (advance n (live_start card) d) (live_len card - d) → Comes (gives d) after
    unfolding released without_first
    release_dropped after is = (e, rw (← e, release_told.first) is)
