-- An image's payload as a range, and the part of it from a block on. Assumes nothing.
use mathlib.Core.Path.{◌≡◌, refl, sym, ◌∙◌}
use mathlib.Core.List.{List}
use Rattle.std.specs.Prelude.{Option, None, Some, is_some}
use Prim.Native.Nat.{ℕ, ◌*◌, ◌/◌, ◌≤◌, min}
use native.Mathlib.Decide.{dec_le}
use native.Mathlib.Omega.{arith}
use lib.ListN.{length, drop, drop_of_length-le}
use Rattle.journal_entry.specs.Entry.{JournalEntry}
use Rattle.journal_range.specs.Payload.{parse_payload, range_answer, range_of}
use Rattle.journal_range.proofs.Totals.{range_even}
use Rattle.image_range.specs.InPlace.{image_payload}
use Rattle.image_range.proofs.Places.{length_image_payload, payload_behind}

-- an image's payload is whole blocks
pub image_range : (s : List ℕ) → range_of (image_payload s) ≡ parse_payload (image_payload s)
image_range s = range_even (image_payload s) (omega (arith, length_image_payload s))

-- whether a range reads is whether there are totals
pub answered : (o : Option (List JournalEntry)) → is_some (range_answer o) ≡ is_some o
answered None = refl
answered (Some es) = refl

-- the part from a block on; past the last block there is nothing, however far
pub part_behind : (s : List ℕ) (block k : ℕ) → k ≡ min block (length s / 4096)
    → image_payload (drop (4096 * k) s) ≡ drop (4064 * block) (image_payload s)
part_behind s block k is = payload_behind s k (omega arith) ∙ go (dec_le block (length s / 4096))
  where
    go : Dec (block ≤ length s / 4096) → drop (4064 * k) (image_payload s) ≡ drop (4064 * block) (image_payload s)
    go (yes h) = let e : k ≡ block = omega arith in rw e
    go (no h) =
        drop_of_length-le (image_payload s) {i = 4064 * k} (omega (arith, length_image_payload s))
        ∙ sym (drop_of_length-le (image_payload s) {i = 4064 * block} (omega (arith, length_image_payload s)))
