-- Block 0 is 4,096 bytes, and the start and the length that stand in it are those that it was made of. Assumes nothing.
use mathlib.Core.Path.{◌≡◌, refl, ap, ◌∙◌}
use mathlib.Core.List.{◌++◌}
use Prim.Native.Nat.{ℕ, ◌+◌, ◌-◌, ◌^◌, ◌≤◌, ◌<◌}
use native.Mathlib.Omega.{arith}
use lib.ListN.{length, length-append, length-replicate}
use Rattle.words.specs.Words.{word}
use Rattle.words.proofs.Words.{unpack_word}
use Rattle.crc32c.specs.Crc32c.{checksum_bytes}
use Rattle.crc32c.proofs.Range.{length_checksum_bytes}
use Rattle.journal_entry.specs.Places.{word_at}
use Rattle.journal_entry.proofs.Joins.{word_left, word_right}
use Rattle.card.specs.Superblock.{zeros, super_fields, super_payload, superblock}

pub length_zeros : (n : ℕ) → length (zeros n) ≡ n
unfolding zeros
length_zeros n = length-replicate n 0

module _ (start len : ℕ) where
  pub length_super_fields : length (super_fields start len) ≡ 14
  unfolding super_fields word
  length_super_fields = refl

  pub length_super_payload : length (super_payload start len) ≡ 4064
  unfolding super_payload
  length_super_payload = rw (length-append, length_super_fields, length_zeros)

  pub length_superblock : length (superblock start len) ≡ 4096
  unfolding superblock
  length_superblock = rw (length-append, length_checksum_bytes, length_super_payload)

  field_start : start < 2 ^ 32 → word_at (super_fields start len) 6 ≡ start
  unfolding super_fields word_at word
  field_start h = unpack_word start h

  field_len : len < 2 ^ 32 → word_at (super_fields start len) 10 ≡ len
  unfolding super_fields word_at word
  field_len h = unpack_word len h

  -- a word of the fields, seen in the block
  field : (i : ℕ) → i + 4 ≤ 14 → word_at (superblock start len) (32 + i) ≡ word_at (super_fields start len) i
  unfolding superblock super_payload
  field i h =
      let p = super_fields start len ++ zeros 4050 in
      let l : length (checksum_bytes p) ≡ 32 = length_checksum_bytes p in
      let e : 32 + i - length (checksum_bytes p) ≡ i = omega arith in
      let f : i + 4 ≤ length (super_fields start len) = rw length_super_fields h in
      word_right (checksum_bytes p) p (32 + i) (omega arith) ∙ ap (word_at p) e
      ∙ word_left (super_fields start len) (zeros 4050) i f

  pub superblock_start : start < 2 ^ 32 → word_at (superblock start len) 38 ≡ start
  superblock_start h = field 6 (omega arith) ∙ field_start h

  pub superblock_len : len < 2 ^ 32 → word_at (superblock start len) 42 ≡ len
  superblock_len h = field 10 (omega arith) ∙ field_len h
