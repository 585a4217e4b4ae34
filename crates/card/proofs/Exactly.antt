-- Each call gives exactly where its tests hold, and each number exactly where its own test fails and none before it
-- does. Assumes nothing.
use mathlib.Core.Path.{◌≡◌, refl}
use mathlib.Core.Bool.{Bool, true, false, cond, not, ◌||◌}
use mathlib.Core.List.{List, [], ◌∷◌}
use Rattle.std.specs.Prelude.{Option, None, Some, is_some}
use Prim.Native.Nat.{ℕ, ◌+◌, ◌*◌, ◌/◌, ◌%◌}
use native.Mathlib.Omega.{arith}
use borrow.Author.Tests.{eq-eqb}
use lib.Dec.{leb, eqb}
use lib.ListN.{length}
use Rattle.refusals.specs.Outcome.{Outcome, gives, require◌else◌then◌, given◌else◌then◌, undamaged◌then◌}
use Rattle.refusals.proofs.Rows.{Exactly, exactly, ExactlyUndamaged, exactly_undamaged}
use Rattle.disk_layout.specs.DiskLayout.{blocks_in_range}
use Rattle.journal_entry.specs.Entry.{JournalEntry}
use Rattle.journal_range.specs.Payload.{parse_payload}
use Rattle.journal_image.specs.Image.{without_checksums, lowest_damaged}
use Rattle.journal_image.specs.Strip.{strip_call}
use Rattle.card.specs.Card.{card_sized, live_len, formed, live_image, live_payload}
use Rattle.card.specs.Calls.{format_call, find_call, image_blocks, store_left, store_call, first_blocks, release_call}
use Rattle.card.proofs.Formed.{formed_told}
use Rattle.card.proofs.Live.{length_live}

-- 14 as a test
read_row : {A : Type 0} (p : Option (List JournalEntry)) (o : Outcome A)
    → (given p else 14 then λ es. o) ≡ (require is_some p else 14 then o)
read_row (Some es) o = refl
read_row None o = refl

-- 19 as a test: no store is left, or there is room
full_row : (left room : Bool)
    → cond left (require room else 19 then gives true) (gives false)
    ≡ (require not left || room else 19 then gives left)
full_row true true = refl
full_row true false = refl
full_row false room = refl

module _ (n : ℕ) (card : List ℕ) where
  pub format_exactly : Exactly ((blocks_in_range n, 1) ∷ (card_sized n card, 18) ∷ []) (tt {0}) (format_call n card)
  unfolding format_call
  format_exactly = exactly _ _ _ refl refl

  -- find is strip of the live image, which is whole blocks: so many as are live
  pub find_rows : (out : List ℕ)
      → find_call n card out
      ≡ (require blocks_in_range n else 1 then require formed n card else 18 then
      require leb (4064 * live_len card) (length out) else 9 then
      undamaged lowest_damaged (live_len card) (live_image card) then gives (live_len card))
  unfolding find_call strip_call
  find_rows out = rows (formed n card) refl
    where
      rows : (t : Bool) → formed n card ≡ t
          → find_call n card out
          ≡ (require blocks_in_range n else 1 then require formed n card else 18 then
          require leb (4064 * live_len card) (length out) else 9 then
          undamaged lowest_damaged (live_len card) (live_image card) then gives (live_len card))
      rows false is = rw is
      rows true is =
          let l = length_live n card (formed_told n card is) in
          let whole : length (live_image card) % 4096 ≡ 0 = omega arith in
          let count : length (live_image card) / 4096 ≡ live_len card = omega arith in
          rw (is, eq-eqb _ _ whole, count)

  pub find_exactly : (out : List ℕ)
      → ExactlyUndamaged
      ((blocks_in_range n, 1) ∷ (formed n card, 18) ∷ (leb (4064 * live_len card) (length out), 9) ∷ [])
      (lowest_damaged (live_len card) (live_image card)) [] (live_len card) (find_call n card out)
  find_exactly out = exactly_undamaged _ _ _ _ _ refl refl (find_rows out)

  pub store_exactly : (image : List ℕ) (made : ℕ)
      → ExactlyUndamaged
      ((blocks_in_range n, 1) ∷ (formed n card, 18) ∷ (eqb (length image % 4096) 0, 11) ∷ [])
      (lowest_damaged (image_blocks image) image)
      ((is_some (parse_payload (without_checksums (image_blocks image) image)), 14)
      ∷ (not (store_left (image_blocks image) made) || leb (live_len card + image_blocks image) n, 19) ∷ [])
      (store_left (image_blocks image) made) (store_call n card image made)
  unfolding store_call
  store_exactly image made =
      let k = image_blocks image in
      let left = store_left k made in
      let room = leb (live_len card + k) n in
      exactly_undamaged _ _ _ _ _ refl refl
      (rw (
        full_row left room,
        read_row (parse_payload (without_checksums k image)) (require not left || room else 19 then gives left),
      ))

  pub release_exactly : ExactlyUndamaged
      ((blocks_in_range n, 1) ∷ (formed n card, 18) ∷ (leb 1 (live_len card), 8) ∷ [])
      (lowest_damaged (live_len card) (live_image card))
      ((is_some (parse_payload (live_payload card)), 14) ∷ []) (first_blocks (live_payload card)) (release_call n card)
  unfolding release_call
  release_exactly =
      exactly_undamaged _ _ _ _ _ refl refl
      (rw (read_row (parse_payload (live_payload card)) (gives (first_blocks (live_payload card)))))
