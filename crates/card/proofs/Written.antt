-- Block 0 written piece by piece, and tested piece by piece. Assumes nothing.
use mathlib.Core.Path.{◌≡◌, sym, ap, ap₂, ◌∙◌}
use mathlib.Core.Bool.{Bool, true, false}
use mathlib.Core.List.{List, [], ◌++◌, append_assoc, append-nil}
use Prim.Native.Nat.{ℕ}
use native.Mathlib.Omega.{arith}
use lib.ListN.{length, take, drop, length-append, length-drop, take-append-drop, drop_of_length-le}
use lib.Seq.{length-take-le, take_all, take-length, take_at, drop_at, drop-drop}
use Rattle.refusals.proofs.Tests.{same, never, impossible}
use Rattle.crc32c.specs.Crc32c.{checksum_bytes}
use Rattle.crc32c.proofs.Range.{length_checksum_bytes}
use Rattle.journal_image.specs.Image.{same_bytes, checksum_checks_out}
use Rattle.journal_image.proofs.Same.{same_equal, same_refl}
use Rattle.card.specs.Superblock.{zeros, super_fields, super_payload, superblock}
use Rattle.card.proofs.Superblock.{length_super_fields, length_super_payload}

-- WRITTEN: the fields behind 32 bytes, zeros behind them, then the checksum in front
module _ (b : List ℕ) (start len : ℕ) (h : length b ≡ 4096) where
  -- what the code has after the fields, with y in their place, and after the zeros, with z in theirs
  abbrev pub fielded : (y : List ℕ) → List ℕ
  fielded y = take 32 b ++ (y ++ drop 14 (drop 32 b))

  abbrev pub zeroed : (y z : List ℕ) → List ℕ
  zeroed y z = take 46 (fielded y) ++ (z ++ drop 4050 (drop 46 (fielded y)))

  pub superblock_written : (fields y z sum last : List ℕ) → fields ≡ super_fields start len
      → y ≡ fields
      → z ≡ zeros (length (take 4050 (drop 46 (fielded y))))
      → sum ≡ checksum_bytes (take 4064 (drop 32 (zeroed y z)))
      → last ≡ take (length sum) sum ++ drop (length sum) (zeroed y z)
      → last ≡ superblock start len
  unfolding super_payload superblock
  superblock_written fields y z sum last ef ey ez es el =
      let F = super_fields start len in
      let P = F ++ zeros 4050 in
      let a = take 32 b in
      let la : length a ≡ 32 = length-take-le 32 b (omega arith) in
      let lF : length F ≡ 14 = length_super_fields start len in
      let lf : length fields ≡ 14 = ap length ef ∙ lF in
      let yF : y ≡ F = ey ∙ ef in
      let rest : drop 14 (drop 32 b) ≡ drop 46 b = drop-drop 14 32 b in
      let laF : length (a ++ F) ≡ 46 = rw (length-append, la, lF) in
      let b1 : fielded y ≡ (a ++ F) ++ drop 46 b = rw (yF, rest) (sym (append_assoc a F (drop 46 b))) in
      let front : take 46 (fielded y) ≡ a ++ F = ap (take 46) b1 ∙ take_at (a ++ F) (drop 46 b) 46 laF in
      let behind : drop 46 (fielded y) ≡ drop 46 b = ap (drop 46) b1 ∙ drop_at (a ++ F) (drop 46 b) 46 laF in
      let lz : length (take 4050 (drop 46 (fielded y))) ≡ 4050 =
      rw behind (length-take-le 4050 (drop 46 b) (rw length-drop (omega arith))) in
      let zz : z ≡ zeros 4050 = ez ∙ ap zeros lz in
      let none : drop 4050 (drop 46 (fielded y)) ≡ [] =
      drop_of_length-le (drop 46 (fielded y)) {i = 4050} (rw (behind, length-drop) (omega arith)) in
      let b2 : zeroed y z ≡ a ++ P = rw (front, zz, none, append-nil (zeros 4050)) (append_assoc a F (zeros 4050)) in
      let pl : drop 32 (zeroed y z) ≡ P = ap (drop 32) b2 ∙ drop_at a P 32 la in
      let lP : length P ≡ 4064 = length_super_payload start len in
      let ss : sum ≡ checksum_bytes P = es ∙ ap checksum_bytes (ap (take 4064) pl ∙ take_all 4064 P (omega arith)) in
      let ls : length sum ≡ 32 = ap length ss ∙ length_checksum_bytes P in
      el ∙ ap₂ ◌++◌ (take-length sum ∙ ss) (ap (λ (k : ℕ). drop k (zeroed y z)) ls ∙ pl)

-- TESTED: the fields, the zeros, and then the checksum decide
module _ (b : List ℕ) (start len : ℕ) (h : length b ≡ 4096) where
  -- what it is to be block 0
  payload_is : b ≡ superblock start len → drop 32 b ≡ super_payload start len
  unfolding superblock
  payload_is e =
      ap (drop 32) e
      ∙ drop_at (checksum_bytes (super_payload start len)) (super_payload start len) 32
      (length_checksum_bytes (super_payload start len))

  fields_are : b ≡ superblock start len → take 14 (drop 32 b) ≡ super_fields start len
  unfolding super_payload
  fields_are e =
      ap (take 14) (payload_is e) ∙ take_at (super_fields start len) (zeros 4050) 14 (length_super_fields start len)

  zeros_are : b ≡ superblock start len → drop 46 b ≡ zeros 4050
  unfolding super_payload
  zeros_are e =
      sym (drop-drop 14 32 b) ∙ ap (drop 14) (payload_is e)
      ∙ drop_at (super_fields start len) (zeros 4050) 14 (length_super_fields start len)

  abbrev tail_part : List ℕ
  tail_part = take 4050 (drop 46 b)

  tail_is : tail_part ≡ drop 46 b
  tail_is = take_all 4050 (drop 46 b) (rw length-drop (omega arith))

  tail_long : length tail_part ≡ 4050
  tail_long = length-take-le 4050 (drop 46 b) (rw length-drop (omega arith))

  not_it : (b ≡ superblock start len → ⊥) → false ≡ same_bytes b (superblock start len)
  not_it other = sym (never (same_bytes b (superblock start len)) (λ t. other (same_equal b (superblock start len) t)))

  -- the fields are others
  pub fields_differ : (r : Bool) (f : List ℕ) → f ≡ super_fields start len → (take 14 (drop 32 b) ≡ f → r ≡ true)
      → r ≡ false
      → false ≡ same_bytes b (superblock start len)
  fields_differ r f ef told fails = not_it λ e. let t = told (fields_are e ∙ sym ef) in impossible cc

  pub zeros_differ : (r : Bool) → r ≡ same_bytes tail_part (zeros (length tail_part)) → r ≡ false
      → false ≡ same_bytes b (superblock start len)
  zeros_differ r er fails =
      not_it λ e.
      let z : tail_part ≡ zeros (length tail_part) = rw tail_long (tail_is ∙ zeros_are e) in
      let t : same_bytes tail_part (zeros (length tail_part)) ≡ true = rw (← z) (same_refl tail_part) in
      impossible cc

  pub agrees_decides : (r s t : Bool) (f : List ℕ) → f ≡ super_fields start len
      → (r ≡ true → take 14 (drop 32 b) ≡ f) → r ≡ true
      → s ≡ same_bytes tail_part (zeros (length tail_part)) → s ≡ true → t ≡ checksum_checks_out b
      → t ≡ same_bytes b (superblock start len)
  unfolding checksum_checks_out super_payload superblock
  agrees_decides r s t f ef told hr es hs et =
      let F = super_fields start len in
      let P = F ++ zeros 4050 in
      let fields : take 14 (drop 32 b) ≡ F = told hr ∙ ef in
      let z : tail_part ≡ zeros 4050 =
      rw tail_long at (same_equal tail_part (zeros (length tail_part)) (sym es ∙ hs)) in
      let p : drop 32 b ≡ P =
      sym (take-append-drop 14 (drop 32 b)) ∙ ap₂ ◌++◌ fields (drop-drop 14 32 b ∙ sym tail_is ∙ z) in
      let sums : t ≡ same_bytes (take 32 b) (checksum_bytes P) = rw p at et in
      sums
      ∙ same (same_bytes (take 32 b) (checksum_bytes P)) (same_bytes b (checksum_bytes P ++ P))
      (λ e. let whole : b ≡ checksum_bytes P ++ P = sym (take-append-drop 32 b)
      ∙ ap₂ ◌++◌ (same_equal (take 32 b) (checksum_bytes P) e) p in
      rw (← whole) (same_refl b))
      (λ e. let front : take 32 b ≡ checksum_bytes P =
      ap (take 32) (same_equal b (checksum_bytes P ++ P) e)
      ∙ take_at (checksum_bytes P) P 32 (length_checksum_bytes P) in
      rw front (same_refl (checksum_bytes P)))
