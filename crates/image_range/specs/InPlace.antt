-- An image read where it lies, as two parts joined: its payload, which the readers read, and its lowest damaged
-- block. Document 02, papers 3 and 14. Assumes nothing.
use Rattle.std.specs.Prelude.{List, ℕ, ◌/◌, length}
use Rattle.std.specs.Prelude.{Option}
use Rattle.journal_image.specs.Image.{without_checksums, lowest_damaged, or_else}

-- the payload of an image's whole blocks; bytes behind the last whole block count for nothing
unfoldable pub image_payload : (image : List ℕ) → List ℕ
image_payload image = without_checksums (length image / 4096) image

-- the lowest damaged block of two parts, b's counted on from a's; where a is whole blocks, that of a ++ b
-- (`damaged_joined` in proofs/Damage)
unfoldable pub lowest_of_two : (a b : List ℕ) → Option ℕ
lowest_of_two a b =
    let blocks = length a / 4096 in
    or_else blocks (lowest_damaged blocks a) (lowest_damaged (length b / 4096) b)
