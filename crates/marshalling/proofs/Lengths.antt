-- The source's writers keep the buffer's length, for any buffer and arguments that they take: the ensures of
-- Impl/JournalistMarshallingModel.i.dfy. Assumes nothing.
use mathlib.Core.Path.{◌≡◌, ◌∙◌}
use mathlib.Core.List.{List, [], ◌∷◌}
use Prim.Native.Nat.{ℕ, zero, suc, ◌+◌, ◌-◌, ◌*◌, ◌/◌, ◌%◌, ◌≤◌, ◌<◌}
use native.Mathlib.Omega.{arith}
use borrow.Author.Tests.{lt-ltb}
use lib.ListN.{length, take, drop, length-drop}
use lib.Seq.{length-take-le}
use Rattle.words.specs.Words.{word}
use Rattle.words.specs.Lists.{splice}
use Rattle.words.proofs.Words.{length_word}
use Rattle.words.proofs.Splice.{length_splice}
use Rattle.crc32c.specs.Crc32c.{checksum_bytes}
use Rattle.crc32c.proofs.Range.{length_checksum_bytes}
use Rattle.journal_entry.specs.Entry.{JournalEntry, journal_insert, journal_clone, sum_journal_entries}
use Rattle.journal_entry.specs.Places.{part}
use Rattle.marshalling.specs.Source.{write_across, write_onto, write_int_onto, write_header, write_journal_entries}
use Rattle.marshalling.specs.Source.{fill_in_checksums}

length_write_across : (ends : ℕ) (buf : List ℕ) (n b idx : ℕ) (bytes : List ℕ) → length buf ≡ 4096 * n
    → 4064 * ends < idx + length bytes → idx + length bytes ≤ 4064 * (ends + 1)
    → idx < 4064 → b * 4064 + idx + length bytes ≤ 4064 * n
    → length (write_across ends buf b idx bytes) ≡ 4096 * n
unfolding write_across
length_write_across zero buf n b idx bytes long more most in_block fits =
    length_splice buf (b * 4096 + 32 + idx) bytes (omega arith) ∙ long
length_write_across (suc ends) buf n b idx bytes long more most in_block fits =
    let head = take (4064 - idx) bytes in
    let rest = drop (4064 - idx) bytes in
    let l₁ : length head ≡ 4064 - idx = length-take-le (4064 - idx) bytes (omega arith) in
    let l₂ : length rest ≡ length bytes - (4064 - idx) = length-drop (4064 - idx) bytes in
    length_write_across ends (splice buf (b * 4096 + 32 + idx) head) n (b + 1) 0 rest
    (length_splice buf (b * 4096 + 32 + idx) head (omega arith) ∙ long) (omega arith) (omega arith) (omega arith)
    (omega arith)

pub length_write_onto : (buf : List ℕ) (n start : ℕ) (bytes : List ℕ) → length buf ≡ 4096 * n
    → start + length bytes ≤ 4064 * n → length (write_onto buf n start bytes) ≡ 4096 * n
unfolding write_onto
length_write_onto buf n start [] long fits = long
length_write_onto buf n start (y ∷ x) long fits =
    let some : 0 < length (y ∷ x) = omega arith in
    rw (lt-ltb _ _ some)
    (length_write_across ((start % 4064 + length (y ∷ x) - 1) / 4064) buf n (start / 4064) (start % 4064) (y ∷ x) long
    (omega arith) (omega arith) (omega arith) (omega arith))

pub length_write_int_onto : (buf : List ℕ) (n idx val : ℕ) → length buf ≡ 4096 * n → idx + 4 ≤ 4064 * n
    → length (write_int_onto buf n idx val) ≡ 4096 * n
unfolding write_int_onto
length_write_int_onto buf n idx val long fits =
    let l = length_word val in
    length_write_onto buf n idx (word val) long (omega arith)

pub length_write_header : (buf : List ℕ) (n len : ℕ) → length buf ≡ 4096 * n → 1 ≤ n
    → length (write_header buf n len) ≡ 4096 * n
unfolding write_header
length_write_header buf n len long some =
    length_write_int_onto (write_int_onto buf n 0 len) n 4 n (length_write_int_onto buf n 0 len long (omega arith))
    (omega arith)

-- the four pieces of an entry
length_pieces : (buf : List ℕ) (n idx val : ℕ) (first second : List ℕ) → length buf ≡ 4096 * n
    → idx + (8 + length first + length second) ≤ 4064 * n
    → length (write_onto (write_int_onto (write_onto (write_int_onto buf n idx val) n (idx + 4) first) n
    (idx + 4 + length first) (length second)) n (idx + 4 + length first + 4) second)
    ≡ 4096 * n
length_pieces buf n idx val first second long fits =
    let l₀ = length_write_int_onto buf n idx val long (omega arith) in
    let l₁ = length_write_onto (write_int_onto buf n idx val) n (idx + 4) first l₀ (omega arith) in
    let l₂ = length_write_int_onto (write_onto (write_int_onto buf n idx val) n (idx + 4) first) n
    (idx + 4 + length first) (length second) l₁ (omega arith) in
    length_write_onto _ n (idx + 4 + length first + 4) second l₂ (omega arith)

pub length_write_journal_entries : (buf : List ℕ) (n idx : ℕ) (es : List JournalEntry) → length buf ≡ 4096 * n
    → idx + sum_journal_entries es ≤ 4064 * n
    → length (write_journal_entries buf n idx es) ≡ 4096 * n
unfolding write_journal_entries
length_write_journal_entries buf n idx [] long fits = long
length_write_journal_entries buf n idx (journal_insert key value ∷ es) long fits =
    length_write_journal_entries
    (write_onto (write_int_onto (write_onto (write_int_onto buf n idx (length key)) n (idx + 4) key) n
    (idx + 4 + length key) (length value)) n
    (idx + 4 + length key + 4) value)
    n (idx + 4 + length key + 4 + length value) es
    (length_pieces buf n idx (length key) key value long (omega arith)) (omega arith)
length_write_journal_entries buf n idx (journal_clone from to ∷ es) long fits =
    length_write_journal_entries
    (write_onto (write_int_onto (write_onto (write_int_onto buf n idx (length from + 4096)) n (idx + 4) from) n
    (idx + 4 + length from) (length to)) n
    (idx + 4 + length from + 4) to)
    n (idx + 4 + length from + 4 + length to) es
    (length_pieces buf n idx (length from + 4096) from to long (omega arith)) (omega arith)

-- the source's `fillInChecksums(buf, n, i)`, of `left` blocks from i on
pub length_fill_in_checksums : (buf : List ℕ) (n left i : ℕ) → length buf ≡ 4096 * n → i + left ≤ n
    → length (fill_in_checksums buf left i) ≡ 4096 * n
unfolding fill_in_checksums
length_fill_in_checksums buf n zero i long fits = long
length_fill_in_checksums buf n (suc left) i long fits =
    let check = checksum_bytes (part buf (4096 * i + 32) (4096 * i + 4096)) in
    let l = length_checksum_bytes (part buf (4096 * i + 32) (4096 * i + 4096)) in
    length_fill_in_checksums (splice buf (4096 * i) check) n left (i + 1)
    (length_splice buf (4096 * i) check (omega arith) ∙ long) (omega arith)
