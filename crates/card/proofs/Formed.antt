-- When a card is formed, as facts; and what a card is whose block 0 was rewritten. Assumes nothing.
use mathlib.Core.Path.{◌≡◌, sym, ap, ap₂, ◌∙◌}
use mathlib.Core.Bool.{true, ◌&&◌}
use mathlib.Core.List.{List, ◌++◌}
use Prim.Native.Nat.{ℕ, ◌+◌, ◌*◌, ◌^◌, ◌≤◌, ◌<◌}
use native.Mathlib.Omega.{arith}
use borrow.Author.Tests.{le-leb, lt-ltb, eq-eqb, leb-true, ltb-true, eqb-true}
use lib.Dec.{leb, ltb}
use lib.ListN.{length, take, drop, take-append-drop}
use lib.Seq.{length-take-le, take_at, drop_at, drop-drop}
use Rattle.refusals.proofs.Tests.{both}
use Rattle.words.proofs.Splice.{splice_zero, length_splice}
use Rattle.disk_layout.specs.JournalInterval.{valid_journal_interval}
use Rattle.journal_entry.specs.Places.{word_at}
use Rattle.journal_entry.proofs.Joins.{word_left}
use Rattle.journal_image.specs.Image.{same_bytes}
use Rattle.journal_image.proofs.Same.{same_equal, same_refl}
use Rattle.card.specs.Superblock.{superblock}
use Rattle.card.specs.Card.{card_sized, live_start, live_len, formed, journal_part}
use Rattle.card.specs.Calls.{rewritten}
use Rattle.card.proofs.Superblock.{length_superblock, superblock_start, superblock_len}

pub record Formed (n : ℕ) (card : List ℕ) : Type 0 where
  pub size : length card ≡ (2 + n) * 4096
  pub block : take 4096 card ≡ superblock (live_start card) (live_len card)
  pub start_in : live_start card < n
  pub len_in : live_len card ≤ n

module _ (n : ℕ) (card : List ℕ) where
  pub formed_told : formed n card ≡ true → Formed n card
  unfolding formed valid_journal_interval
  formed_told h =
      let (ab, c) =
      both (card_sized n card && same_bytes (take 4096 card) (superblock (live_start card) (live_len card))) _ h in
      let (a, b) = both (card_sized n card) _ ab in
      let (s, l) = both (ltb (live_start card) n) (leb (live_len card) n) c in
      record { size = eqb-true _ _ a; block = same_equal _ _ b; start_in = ltb-true _ _ s; len_in = leb-true _ _ l }

  pub formed_holds : Formed n card → formed n card ≡ true
  unfolding formed valid_journal_interval
  formed_holds f =
      let b = superblock (live_start card) (live_len card) in
      let same : same_bytes (take 4096 card) b ≡ true = ap (λ (l : List ℕ). same_bytes l b) f.block ∙ same_refl b in
      rw (eq-eqb _ _ f.size, same, lt-ltb _ _ f.start_in, le-leb _ _ f.len_in)

-- the named interval stands in block 0
word_in_front : (card : List ℕ) (i : ℕ) → 4096 ≤ length card → i + 4 ≤ 4096
    → word_at card i ≡ word_at (take 4096 card) i
word_in_front card i h f =
    let l : length (take 4096 card) ≡ 4096 = length-take-le 4096 card h in
    ap (λ (c : List ℕ). word_at c i) (sym (take-append-drop 4096 card))
    ∙ word_left (take 4096 card) (drop 4096 card) i (omega arith)

module _ (card other : List ℕ) (h : 4096 ≤ length card) (h' : 4096 ≤ length other)
    (same : take 4096 card ≡ take 4096 other) where
  pub same_start : live_start card ≡ live_start other
  unfolding live_start
  same_start = word_in_front card 38 h (omega arith) ∙ ap (λ (c : List ℕ). word_at c 38) same
      ∙ sym (word_in_front other 38 h' (omega arith))

  pub same_len : live_len card ≡ live_len other
  unfolding live_len
  same_len = word_in_front card 42 h (omega arith) ∙ ap (λ (c : List ℕ). word_at c 42) same
      ∙ sym (word_in_front other 42 h' (omega arith))

-- a card with the same block 0 and the same length is formed as well
pub formed_same : (n : ℕ) (card other : List ℕ) → Formed n other → length card ≡ length other
    → take 4096 card ≡ take 4096 other → Formed n card
formed_same n card other f l same =
    let h : 4096 ≤ length card = omega (arith, f.size) in
    let s : live_start card ≡ live_start other = same_start card other h (omega arith) same in
    let e : live_len card ≡ live_len other = same_len card other h (omega arith) same in
    record {
      size = l ∙ f.size;
      block = same ∙ f.block ∙ ap₂ superblock (sym s) (sym e);
      start_in = omega (arith, f.start_in);
      len_in = omega (arith, f.len_in);
    }

-- REWRITING block 0
module _ (card : List ℕ) (start len : ℕ) (h : 4096 ≤ length card) where
  sup_fits : 0 + length (superblock start len) ≤ length card
  sup_fits = rw length_superblock h

  pub rewritten_is : rewritten card start len ≡ superblock start len ++ drop 4096 card
  unfolding rewritten
  rewritten_is = splice_zero card (superblock start len) ∙ rw length_superblock

  pub length_rewritten : length (rewritten card start len) ≡ length card
  unfolding rewritten
  length_rewritten = length_splice card 0 (superblock start len) sup_fits

  pub rewritten_front : take 4096 (rewritten card start len) ≡ superblock start len
  rewritten_front =
      ap (take 4096) rewritten_is ∙ take_at (superblock start len) (drop 4096 card) 4096 (length_superblock start len)

  -- no other block changes
  pub rewritten_rest : drop 4096 (rewritten card start len) ≡ drop 4096 card
  rewritten_rest =
      ap (drop 4096) rewritten_is ∙ drop_at (superblock start len) (drop 4096 card) 4096 (length_superblock start len)

  pub rewritten_start : start < 2 ^ 32 → live_start (rewritten card start len) ≡ start
  unfolding live_start
  rewritten_start b =
      let l : 4096 ≤ length (rewritten card start len) = rw length_rewritten h in
      word_in_front (rewritten card start len) 38 l (omega arith) ∙ rw rewritten_front (superblock_start start len b)

  pub rewritten_len : len < 2 ^ 32 → live_len (rewritten card start len) ≡ len
  unfolding live_len
  rewritten_len b =
      let l : 4096 ≤ length (rewritten card start len) = rw length_rewritten h in
      word_in_front (rewritten card start len) 42 l (omega arith) ∙ rw rewritten_front (superblock_len start len b)

  pub rewritten_journal : journal_part (rewritten card start len) ≡ journal_part card
  rewritten_journal =
      sym (drop-drop 4096 4096 (rewritten card start len)) ∙ ap (drop 4096) rewritten_rest ∙ drop-drop 4096 4096 card

  pub rewritten_formed : (n : ℕ) → length card ≡ (2 + n) * 4096 → n ≤ 1024 → start < n → len ≤ n
      → Formed n (rewritten card start len)
  rewritten_formed n size most s l =
      let es : live_start (rewritten card start len) ≡ start = rewritten_start (omega arith) in
      let el : live_len (rewritten card start len) ≡ len = rewritten_len (omega arith) in
      record {
        size = length_rewritten ∙ size;
        block = rewritten_front ∙ ap₂ superblock (sym es) (sym el);
        start_in = omega arith;
        len_in = omega arith;
      }
