-- Every block outside the written ones is unchanged, whatever the call came to. Assumes nothing.
use mathlib.Core.Path.{◌≡◌, refl, sym, ap, ◌∙◌}
use mathlib.Core.Bool.{Bool, true, false, cond}
use mathlib.Core.List.{List, ◌++◌, append_assoc}
use Rattle.std.specs.Prelude.{Option, None, Some}
use Prim.Native.Nat.{ℕ, ◌+◌, ◌-◌, ◌*◌, ◌%◌, ◌≤◌, ◌<◌}
use native.Mathlib.Omega.{arith}
use borrow.Author.Tests.{leb-true, eqb-true, lt-ltb, le-ltb}
use lib.Dec.{leb, ltb, eqb}
use lib.ListN.{length, take, drop, length-append, length-drop, take-append-drop}
use lib.Seq.{length-take-le}
use Rattle.refusals.specs.Outcome.{gives, require◌else◌then◌, given◌else◌then◌, undamaged◌then◌, bytes_after}
use Rattle.words.specs.Lists.{splice}
use Rattle.words.proofs.Splice.{run_left, run_right, length_splice}
use Rattle.disk_layout.specs.DiskLayout.{blocks_in_range, journal_point}
use Rattle.disk_layout.specs.JournalInterval.{in_cyclic_range}
use Rattle.journal_entry.specs.Entry.{JournalEntry}
use Rattle.journal_entry.proofs.Options.{by_order}
use Rattle.journal_range.specs.Payload.{parse_payload}
use Rattle.journal_image.specs.Image.{without_checksums, lowest_damaged}
use Rattle.journal_ring.specs.Ring.{advance}
use Rattle.journal_ring.proofs.Rotation.{advance_lt}
use Rattle.card.specs.Superblock.{superblock}
use Rattle.card.specs.Card.{card_sized, live_start, live_len, live, formed, live_image, live_payload}
use Rattle.card.specs.Calls.{format_call, formatted, image_blocks, store_left, store_call, with_block, with_store}
use Rattle.card.specs.Calls.{stored, first_blocks, release_call, released, rewritten, without_first}
use Rattle.card.specs.Rules.{block_at, stored_at, Unchanged}
use Rattle.card.proofs.Superblock.{length_superblock}
use Rattle.card.proofs.Formed.{Formed, formed_told, length_rewritten}
use Rattle.card.proofs.Places.{behind_outside}

-- one block put at a block's place: the others are as they were
pub other_block : (d x : List ℕ) (at j i : ℕ) → at ≡ 4096 * j → length x ≡ 4096 → at + 4096 ≤ length d → (i ≡ j → ⊥)
    → block_at (splice d at x) i ≡ block_at d i
unfolding splice
other_block d x at j i e lx h other = by_order i j before behind
  where
    lt : length (take at d) ≡ at
    lt = length-take-le at d (omega arith)

    before : i ≤ j → take 4096 (drop (4096 * i) (take at d ++ (x ++ drop (at + length x) d))) ≡ block_at d i
    before le =
        let l = lt in
        let less : i < j = by_order j i (λ ge. absurd (other (omega arith))) (λ less. less) in
        run_left (take at d) (x ++ drop (at + length x) d) (4096 * i) 4096 (omega arith)
        ∙ sym (run_left (take at d) (drop at d) (4096 * i) 4096 (omega arith))
        ∙ ap (λ (l : List ℕ). block_at l i) (take-append-drop at d)

    behind : j < i → take 4096 (drop (4096 * i) (take at d ++ (x ++ drop (at + length x) d))) ≡ block_at d i
    behind gt =
        let b = at + length x in
        let lb : length (take b d) ≡ b = length-take-le b d (omega arith) in
        let l = lt in
        let lf : length (take at d ++ x) ≡ b = rw (length-append, lt) in
        let same : 4096 * i - length (take at d ++ x) ≡ 4096 * i - length (take b d) = omega arith in
        ap (λ (l : List ℕ). block_at l i) (sym (append_assoc (take at d) x (drop b d)))
        ∙ run_right (take at d ++ x) (drop b d) (4096 * i) 4096 (omega arith)
        ∙ ap (λ (k : ℕ). take 4096 (drop k (drop b d))) same
        ∙ sym (run_right (take b d) (drop b d) (4096 * i) 4096 (omega arith))
        ∙ ap (λ (l : List ℕ). block_at l i) (take-append-drop b d)

-- of block 0
rewritten_others : (card : List ℕ) (start len i : ℕ) → 4096 ≤ length card → 1 ≤ i
    → block_at (rewritten card start len) i ≡ block_at card i
unfolding rewritten
rewritten_others card start len i h hi =
    other_block card (superblock start len) 0 0 i refl (length_superblock start len) (omega arith) (λ z. omega arith)

-- A call leaves the card as it was, or every one of its tests held.

store_rows : {C : Type 0} (r f w : Bool) (o : Option ℕ) (p : Option (List JournalEntry)) (l m : Bool) (x card : List ℕ)
    → (bytes_after (require r else 1 then require f else 18 then require w else 11 then undamaged o then given p
    else 14 then λ new.
    cond l (require m else 19 then gives true) (gives false)) (cond l x card) card ≡ card → C)
    → (f ≡ true → w ≡ true → m ≡ true
    → bytes_after (require r else 1 then require f else 18 then require w else 11 then undamaged o then given p
    else 14 then λ new.
    cond l (require m else 19 then gives true) (gives false)) (cond l x card) card ≡ x → C)
    → C
store_rows false f w o p l m x card kept put = kept refl
store_rows true false w o p l m x card kept put = kept refl
store_rows true true false o p l m x card kept put = kept refl
store_rows true true true (Some i) p l m x card kept put = kept refl
store_rows true true true None None l m x card kept put = kept refl
store_rows true true true None (Some es) false m x card kept put = kept refl
store_rows true true true None (Some es) true false x card kept put = kept refl
store_rows true true true None (Some es) true true x card kept put = put refl refl refl refl

release_rows : {C : Type 0} (r f s : Bool) (o : Option ℕ) (p : Option (List JournalEntry)) (k : ℕ) (x card : List ℕ)
    → (bytes_after (require r else 1 then require f else 18 then require s else 8 then undamaged o then given p
    else 14 then λ old. gives k) x card ≡ card → C)
    → (f ≡ true → bytes_after (require r else 1 then require f else 18 then require s else 8 then undamaged o then
    given p else 14 then λ old. gives k) x card ≡ x → C)
    → C
release_rows false f s o p k x card kept put = kept refl
release_rows true false s o p k x card kept put = kept refl
release_rows true true false o p k x card kept put = kept refl
release_rows true true true (Some i) p k x card kept put = kept refl
release_rows true true true None None k x card kept put = kept refl
release_rows true true true None (Some es) k x card kept put = put refl refl

format_rows : {C : Type 0} (r s : Bool) (x card : List ℕ)
    → (bytes_after (require r else 1 then require s else 18 then gives (tt {0})) x card ≡ card → C)
    → (s ≡ true → bytes_after (require r else 1 then require s else 18 then gives (tt {0})) x card ≡ x → C) → C
format_rows false s x card kept put = kept refl
format_rows true false x card kept put = kept refl
format_rows true true x card kept put = put refl refl

module _ (n : ℕ) (card : List ℕ) where
  pub format_cases : {C : Type 0} → (formatted n card ≡ card → C)
      → (4096 ≤ length card → formatted n card ≡ rewritten card 0 0 → C) → C
  unfolding formatted format_call
  format_cases kept put =
      format_rows (blocks_in_range n) (card_sized n card) (rewritten card 0 0) card kept
      (λ s e. let l = eqb-true (length card) ((2 + n) * 4096) s in put (omega arith) e)

  pub release_cases : {C : Type 0} → (released n card ≡ card → C)
      → (Formed n card → released n card ≡ without_first n card → C) → C
  unfolding released release_call
  release_cases kept put =
      release_rows (blocks_in_range n) (formed n card) (leb 1 (live_len card))
      (lowest_damaged (live_len card) (live_image card)) (parse_payload (live_payload card))
      (first_blocks (live_payload card)) (without_first n card) card kept
      (λ f e. put (formed_told n card f) e)

  module _ (image : List ℕ) (made : ℕ) where
    abbrev k : ℕ
    k = image_blocks image

    pub store_cases : {C : Type 0} → (stored n card image made ≡ card → C)
        → (Formed n card → length image % 4096 ≡ 0 → live_len card + k ≤ n
        → stored n card image made ≡ cond (ltb made k) (with_block n card image made)
        (rewritten card (live_start card) (live_len card + k)) → C) → C
    unfolding stored store_call with_store
    store_cases kept put =
        store_rows (blocks_in_range n) (formed n card) (eqb (length image % 4096) 0) (lowest_damaged k image)
        (parse_payload (without_checksums k image))
        (store_left k made) (leb (live_len card + k) n)
        (cond (ltb made k) (with_block n card image made) (rewritten card (live_start card) (live_len card + k)))
        card kept
        (λ f w m e. put (formed_told n card f) (eqb-true _ _ w) (leb-true _ _ m) e)

    -- by which store
    stored_by : {C : Type 0} → (stored n card image made ≡ card → C)
        → (Formed n card → length image % 4096 ≡ 0 → live_len card + k ≤ n → made < k
        → stored n card image made ≡ with_block n card image made → C)
        → (Formed n card → k ≤ made → stored n card image made ≡ rewritten card (live_start card) (live_len card + k)
        → C) → C
    stored_by kept block last =
        store_cases kept λ f w m e.
        by_order k made
        (λ ge. last f ge (e ∙ rw (le-ltb _ _ ge)))
        (λ lt. block f w m lt (e ∙ rw (lt-ltb _ _ lt)))

    length_block : length image % 4096 ≡ 0 → made < k → length (take 4096 (drop (4096 * made) image)) ≡ 4096
    length_block w h = length-take-le 4096 (drop (4096 * made) image) (rw length-drop (omega arith))

    place_in : Formed n card → live_len card + k ≤ n → made < k → advance n (live_start card) (live_len card + made) < n
    place_in f m h = advance_lt n (live_start card) (live_len card + made) f.start_in (omega arith)

    pub store_length : length (stored n card image made) ≡ length card
    unfolding with_block
    store_length =
        stored_by (λ e. ap length e)
        (λ f w m h e.
        let l = length_block w h in
        let q = place_in f m h in
        let s = f.size in
        ap length e ∙ length_splice card (journal_point (advance n (live_start card) (live_len card + made)))
        (take 4096 (drop (4096 * made) image)) (omega arith))
        (λ f h e. ap length e ∙ length_rewritten card (live_start card) (live_len card + k) (omega (arith, f.size)))

    pub store_others : (i : ℕ) → (i ≡ stored_at n card image made → ⊥)
        → block_at (stored n card image made) i ≡ block_at card i
    unfolding with_block
    store_others i other =
        stored_by (λ e. ap (λ (l : List ℕ). block_at l i) e)
        (λ f w m h e.
        let q = advance n (live_start card) (live_len card + made) in
        let qn = place_in f m h in
        let s = f.size in
        let apart : i ≡ 2 + q → ⊥ = rw (lt-ltb made k h) at other in
        ap (λ (l : List ℕ). block_at l i) e
        ∙ other_block card (take 4096 (drop (4096 * made) image)) (journal_point q) (2 + q) i (omega arith)
        (length_block w h) (omega arith) apart)
        (λ f h e.
        let apart : i ≡ 0 → ⊥ = rw (le-ltb made k h) at other in
        let hi : 1 ≤ i = by_order 1 i (λ ok. ok) (λ z. absurd (apart (omega arith))) in
        ap (λ (l : List ℕ). block_at l i) e
        ∙ rewritten_others card (live_start card) (live_len card + k) i (omega (arith, f.size)) hi)

    -- the block stored is none of the live ones
    pub store_live : (i : ℕ) → i < n → in_cyclic_range n i (live card) ≡ true
        → block_at (stored n card image made) (2 + i) ≡ block_at card (2 + i)
    unfolding with_block
    store_live i hi inside =
        stored_by (λ e. ap (λ (l : List ℕ). block_at l (2 + i)) e)
        (λ f w m h e.
        let q = advance n (live_start card) (live_len card + made) in
        let qn = place_in f m h in
        let s = f.size in
        let out : in_cyclic_range n q (live card) ≡ false =
        behind_outside n (live_start card) (live_len card) made f.start_in (omega arith) in
        let apart : 2 + i ≡ 2 + q → ⊥ = λ same.
        let iq : i ≡ q = omega arith in
        let yes' : in_cyclic_range n q (live card) ≡ true = rw iq at inside in
        let z : ◌≡◌ {A = ℕ} 0 1 = cc in omega arith in
        ap (λ (l : List ℕ). block_at l (2 + i)) e
        ∙ other_block card (take 4096 (drop (4096 * made) image)) (journal_point q) (2 + q) (2 + i) (omega arith)
        (length_block w h) (omega arith) apart)
        (λ f h e. ap (λ (l : List ℕ). block_at l (2 + i)) e
        ∙ rewritten_others card (live_start card) (live_len card + k) (2 + i) (omega (arith, f.size)) (omega arith))

  pub unchanged : Unchanged n card
  unfolding without_first
  unchanged =
      record {
        format_length = format_cases (λ e. ap length e) (λ h e. ap length e ∙ length_rewritten card 0 0 h);
        release_length =
            release_cases (λ e. ap length e) (λ f e. ap length e ∙ length_rewritten card _ _ (omega (arith, f.size)));
        store_length = store_length;
        format_others = λ i hi. format_cases (λ e. ap (λ (l : List ℕ). block_at l i) e)
            (λ h e. ap (λ (l : List ℕ). block_at l i) e ∙ rewritten_others card 0 0 i h hi);
        release_others = λ i hi. release_cases (λ e. ap (λ (l : List ℕ). block_at l i) e)
            (λ f e. ap (λ (l : List ℕ). block_at l i) e ∙ rewritten_others card _ _ i (omega (arith, f.size)) hi);
        store_others = store_others;
        store_live = store_live;
      }
