-- A range of payload blocks, and the entries that it reads as, over the limit of values (`Entry` in journal_entry):
-- BlockCacheSystem/JournalRange.i.dfy. Assumes nothing.
use Rattle.std.specs.Prelude.{◌&&◌, List, [], ◌∷◌, ◌++◌, ℕ, zero, suc, ◌-◌, leb, length, take, drop}
use Rattle.std.specs.Prelude.{Option, Some}
use Rattle.words.specs.Lists.{concat_seq}
use Rattle.journal_entry.specs.Entry.{JournalEntry, value_limit}
use Rattle.journal_entry.specs.Parse.{◌>>=◌, provided, read_word, parse_entries_at}

abbrev pub JournalBlock : Type 0
JournalBlock = List ℕ

abbrev pub JournalRange : Type 0
JournalRange = List JournalBlock

-- a batch's header, at the front of its first block: entries, blocks
unfoldable pub parse_header : (s : JournalBlock) → Option (ℕ × ℕ)
parse_header s = do
  (nentries, s₁) ← read_word s
  (nblocks, s₂) ← read_word s₁
  Some (nentries, nblocks)

-- the entries of one batch, which is these blocks, behind its header; bytes after the last are ignored
unfoldable pub parse_journal_range_of_bytes_at : (limit : ℕ) (s : List ℕ) (nentries : ℕ) → Option (List JournalEntry)
parse_journal_range_of_bytes_at limit s nentries = parse_entries_at limit nentries (drop 8 s)

-- `parse_from_at limit k jr` reads jr from its block k on: the first k blocks belong to a batch that is read already.
-- (Recursion on the list itself; `parse_journal_range_cons` in proofs/ is the source's own recursion, on the blocks
-- behind a batch.)
unfoldable pub parse_from_at : (limit k : ℕ) → JournalRange → Option (List JournalEntry)
parse_from_at limit k [] = Some []
parse_from_at limit (suc k) (b ∷ bs) = parse_from_at limit k bs
parse_from_at limit zero (b ∷ bs) = do
  (nentries, nblocks) ← parse_header b
  provided (leb 1 nblocks && leb nblocks (length (b ∷ bs))) do
    es₁ ← parse_journal_range_of_bytes_at limit (concat_seq (take nblocks (b ∷ bs))) nentries
    es₂ ← parse_from_at limit (nblocks - 1) bs
    Some (es₁ ++ es₂)

-- batch after batch; limits neither the blocks nor the entries of a whole range
unfoldable pub parse_journal_range_at : (limit : ℕ) → JournalRange → Option (List JournalEntry)
unfolding parse_from_at
parse_journal_range_at limit jr = parse_from_at limit 0 jr

abbrev pub parse_journal_range_of_bytes : (s : List ℕ) (nentries : ℕ) → Option (List JournalEntry)
parse_journal_range_of_bytes s nentries = parse_journal_range_of_bytes_at value_limit s nentries

abbrev pub parse_from : (k : ℕ) → JournalRange → Option (List JournalEntry)
parse_from k jr = parse_from_at value_limit k jr

abbrev pub parse_journal_range : JournalRange → Option (List JournalEntry)
parse_journal_range jr = parse_journal_range_at value_limit jr
