-- Where the payload's bytes stand in an image. Assumes nothing.
use mathlib.Core.Path.{◌≡◌, refl, sym, ap, ◌∙◌}
use mathlib.Core.Bool.{Bool, true, false, cond}
use Rattle.std.specs.Prelude.{Option, None, Some}
use mathlib.Core.List.{List, ◌++◌}
use Prim.Native.Nat.{ℕ, zero, suc, ◌+◌, ◌-◌, ◌*◌, ◌/◌, ◌%◌, ◌≤◌, ◌<◌}
use native.Mathlib.Omega.{arith}
use borrow.Author.Tests.{lt-ltb, le-ltb, ltb-true, ltb-false}
use lib.Dec.{ltb}
use lib.ListN.{length, take, drop, get_or, length-drop, length-append, get_or-eq_default}
use lib.Seq.{get_or-drop, get_or-take}
use Rattle.journal_entry.specs.Places.{word_at}
use Rattle.journal_entry.proofs.Joins.{get_d_left, get_d_right, word_bytes}
use Rattle.journal_image.specs.Image.{without_checksums}
use Rattle.journal_image.proofs.Payloads.{length_payload, length_without}
use Rattle.journal_image.proofs.Blocks.{without_drop}
use Rattle.image_range.specs.InPlace.{image_payload}

-- BYTE r OF BLOCK q'S PAYLOAD stands behind the block's 32 bytes of checksum
byte_there : (k q r : ℕ) (s : List ℕ) → 4096 * k ≤ length s → q < k → r < 4064
    → get_or (without_checksums k s) (4064 * q + r) 0 ≡ get_or s (4096 * q + 32 + r) 0
unfolding without_checksums
byte_there zero q r s h below inside = absurd (omega arith)
byte_there (suc k) zero r s h below inside =
    let long : length (drop 32 (take 4096 s)) ≡ 4064 = length_payload s (omega arith) in
    let e₁ : 4064 * 0 + r ≡ r = omega arith in
    let e₂ : 32 + r ≡ 4096 * 0 + 32 + r = omega arith in
    ap (λ (n : ℕ). get_or (without_checksums (suc k) s) n 0) e₁
    ∙ get_d_left (drop 32 (take 4096 s)) (without_checksums k (drop 4096 s)) r (omega arith)
    ∙ get_or-drop 32 (take 4096 s) r 0
    ∙ get_or-take 4096 s (32 + r) 0 (omega arith)
    ∙ ap (λ (n : ℕ). get_or s n 0) e₂
byte_there (suc k) (suc q) r s h below inside =
    let long : length (drop 32 (take 4096 s)) ≡ 4064 = length_payload s (omega arith) in
    let e₁ : 4064 * suc q + r - length (drop 32 (take 4096 s)) ≡ 4064 * q + r = omega arith in
    let e₂ : 4096 + (4096 * q + 32 + r) ≡ 4096 * suc q + 32 + r = omega arith in
    let room : 4096 * k ≤ length (drop 4096 s) = rw length-drop (omega arith) in
    get_d_right (drop 32 (take 4096 s)) (without_checksums k (drop 4096 s)) (4064 * suc q + r) (omega arith)
    ∙ ap (λ (n : ℕ). get_or (without_checksums k (drop 4096 s)) n 0) e₁
    ∙ byte_there k q r (drop 4096 s) room (omega arith) inside
    ∙ get_or-drop 4096 s (4096 * q + 32 + r) 0
    ∙ ap (λ (n : ℕ). get_or s n 0) e₂

-- the place in an image of the payload's byte p
abbrev pub place_of : (p : ℕ) → ℕ
place_of p = 4096 * (p / 4064) + 32 + p % 4064

pub length_image_payload : (s : List ℕ) → length (image_payload s) ≡ 4064 * (length s / 4096)
unfolding image_payload
length_image_payload s = length_without (length s / 4096) s (omega arith)

-- of two parts joined
pub length_joined : (a b : List ℕ) → length (image_payload (a ++ b)) ≡ 4064 * ((length a + length b) / 4096)
length_joined a b = length_image_payload (a ++ b) ∙ ap (λ (n : ℕ). 4064 * (n / 4096)) (length-append a b)

module _ (s : List ℕ) (p : ℕ) where
  -- so many bytes on, in the same block
  bytes_from : p < length (image_payload s) → (i : ℕ) → p % 4064 + i < 4064
      → get_or (image_payload s) (p + i) 0 ≡ get_or s (place_of p + i) 0
  unfolding image_payload
  bytes_from h i inside =
      let below : p / 4064 < length s / 4096 = omega (arith, length_image_payload s) in
      let e₁ : 4064 * (p / 4064) + (p % 4064 + i) ≡ p + i = omega arith in
      let e₂ : 4096 * (p / 4064) + 32 + (p % 4064 + i) ≡ place_of p + i = omega arith in
      sym (ap (λ (n : ℕ). get_or (image_payload s) n 0) e₁)
      ∙ byte_there (length s / 4096) (p / 4064) (p % 4064 + i) s (omega arith) below inside
      ∙ ap (λ (n : ℕ). get_or s n 0) e₂

  byte_inside : p < length (image_payload s) → get_or s (place_of p) 0 ≡ get_or (image_payload s) p 0
  byte_inside h =
      let e₁ : p + 0 ≡ p = omega arith in
      let e₂ : place_of p + 0 ≡ place_of p = omega arith in
      sym (rw (e₁, e₂) at (bytes_from h 0 (omega arith)))

  byte_behind : length (image_payload s) ≤ p → 0 ≡ get_or (image_payload s) p 0
  byte_behind h = sym (get_or-eq_default (image_payload s) 0 h)

  -- a word that ends in the block where it starts
  word_inside : p < length (image_payload s) → p % 4064 ≤ 4060
      → word_at s (place_of p) ≡ word_at (image_payload s) p
  word_inside h inside =
      omega (
        arith,
        word_bytes s (place_of p),
        word_bytes (image_payload s) p,
        byte_inside h,
        bytes_from h 1 (omega arith),
        bytes_from h 2 (omega arith),
        bytes_from h 3 (omega arith),
      )

  -- The place, if p is one of the payload's.

  abbrev pub place_in : Option ℕ
  place_in = cond (ltb p (length (image_payload s))) (Some (place_of p)) None

  pub placed : p / 4064 < length s / 4096 → Some (place_of p) ≡ place_in
  placed h = rw (lt-ltb p (length (image_payload s)) (omega (arith, length_image_payload s)))

  pub unplaced : length s / 4096 ≤ p / 4064 → None ≡ place_in
  unplaced h = rw (le-ltb p (length (image_payload s)) (omega (arith, length_image_payload s)))

  -- and back
  place_told : (at : ℕ) → place_in ≡ Some at → (p < length (image_payload s)) × (at ≡ place_of p)
  place_told at e = go (ltb p (length (image_payload s))) refl e
    where
      go : (t : Bool) → ltb p (length (image_payload s)) ≡ t → cond t (Some (place_of p)) None ≡ Some at
          → (p < length (image_payload s)) × (at ≡ place_of p)
      go true is x = (ltb-true p (length (image_payload s)) is, cc)
      go false is x = let z : ◌≡◌ {A = ℕ} 0 1 = cc in absurd (omega arith)

  place_none : place_in ≡ None → length (image_payload s) ≤ p
  place_none e = go (ltb p (length (image_payload s))) refl e
    where
      go : (t : Bool) → ltb p (length (image_payload s)) ≡ t → cond t (Some (place_of p)) None ≡ None
          → length (image_payload s) ≤ p
      go true is x = let z : ◌≡◌ {A = ℕ} 0 1 = cc in absurd (omega arith)
      go false is x = ltb-false p (length (image_payload s)) is

  pub byte_placed : (at : ℕ) → place_in ≡ Some at → get_or s at 0 ≡ get_or (image_payload s) p 0
  byte_placed at e = let (h, is) = place_told at e in rw is (byte_inside h)

  pub byte_unplaced : place_in ≡ None → 0 ≡ get_or (image_payload s) p 0
  byte_unplaced e = byte_behind (place_none e)

  pub word_placed : (at : ℕ) → place_in ≡ Some at → p % 4064 ≤ 4060 → word_at s at ≡ word_at (image_payload s) p
  word_placed at e inside = let (h, is) = place_told at e in rw is (word_inside h inside)

  pub word_fits : (at : ℕ) → place_in ≡ Some at → p % 4064 ≤ 4060 → p + 4 ≤ length (image_payload s)
  word_fits at e inside = omega (arith, (place_told at e).0, length_image_payload s)

-- what the readers of a byte and of a word are proved by
pub ruleset places = (placed, unplaced, byte_placed, byte_unplaced, word_placed, word_fits)

-- THE PART FROM A BLOCK ON: its payload is the payload from there on
pub payload_behind : (s : List ℕ) (j : ℕ) → j ≤ length s / 4096
    → image_payload (drop (4096 * j) s) ≡ drop (4064 * j) (image_payload s)
unfolding image_payload
payload_behind s j h =
    let e : length (drop (4096 * j) s) / 4096 ≡ length s / 4096 - j = rw length-drop (omega arith) in
    let sum : j + (length s / 4096 - j) ≡ length s / 4096 = omega arith in
    rw e (without_drop j (length s / 4096 - j) s (omega arith)
    ∙ ap (λ (k : ℕ). drop (4064 * j) (without_checksums k s)) sum)

-- the readers' payload is strip's
pub payload_is : (s : List ℕ) (k : ℕ) → length s / 4096 ≡ k → image_payload s ≡ without_checksums k s
unfolding image_payload
payload_is s k e = rw e
