-- The lowest damaged block of two parts joined is a's, or else b's counted on from a's blocks. Assumes nothing.
use mathlib.Core.Path.{◌≡◌, sym}
use mathlib.Core.List.{List, ◌++◌}
use Prim.Native.Nat.{ℕ, ◌+◌, ◌/◌, ◌%◌, ◌<◌}
use native.Mathlib.Omega.{arith}
use lib.ListN.{length, length-append}
use Rattle.journal_image.specs.Image.{lowest_damaged}
use Rattle.std.specs.Prelude.{Option, None, Some}
use Rattle.journal_image.proofs.Damaged.{lowest_told}
use Rattle.journal_image.proofs.Blocks.{lowest_append}
use Rattle.image_range.specs.InPlace.{lowest_of_two}

pub damaged_joined : (a b : List ℕ) → length a % 4096 ≡ 0
    → lowest_of_two a b ≡ lowest_damaged (length (a ++ b) / 4096) (a ++ b)
unfolding lowest_of_two
damaged_joined a b h =
    let e : length (a ++ b) / 4096 ≡ length a / 4096 + length b / 4096 = rw length-append (omega arith) in
    rw e (sym (lowest_append (length a / 4096) (length b / 4096) a b (omega arith)))

-- What a look at one part tells.

abbrev in_part_lem : (s : List ℕ) → Option ℕ
in_part_lem s = lowest_damaged (length s / 4096) s

pub block_below : (s : List ℕ) (i : ℕ) → in_part_lem s ≡ Some i → i < length s / 4096
block_below s i e = (lowest_told (length s / 4096) s (Some i) e).0

module _ (a b : List ℕ) where
  pub of_a : (i : ℕ) → in_part_lem a ≡ Some i → Some i ≡ lowest_of_two a b
  unfolding lowest_of_two
  of_a i e = rw e

  pub of_b : (i : ℕ) → in_part_lem a ≡ None → in_part_lem b ≡ Some i → Some (length a / 4096 + i) ≡ lowest_of_two a b
  unfolding lowest_of_two
  of_b i e f = rw (e, f)

  pub of_neither : in_part_lem a ≡ None → in_part_lem b ≡ None → None ≡ lowest_of_two a b
  unfolding lowest_of_two
  of_neither e f = rw (e, f)

-- what the search for it is proved by
pub ruleset damage = (block_below, of_a, of_b, of_neither)
