-- Cyclic intervals of the journal's blocks: BlockCacheSystem/JournalInterval.i.dfy, with N (here n) for
-- `NumJournalBlocks()`. Assumes nothing.
use Rattle.std.specs.Prelude.{Bool, true, false, ◌&&◌, ◌||◌, cond, ℕ, zero, suc, ◌+◌, ◌-◌, ◌/◌, leb, ltb, eqb}
use Rattle.std.specs.Prelude.{Option, None, Some}
use Rattle.disk_layout.specs.declared.JournalInterval.{JournalInterval}
use Rattle.disk_layout.specs.declared.Location.{Location}
use Rattle.disk_layout.specs.DiskLayout.{journal_start_addr}

-- so many blocks from a block on; behind block N - 1 comes block 0
abbrev pub interval : (start len : ℕ) → JournalInterval
interval start len = record { start = start; len = len }

-- an interval needs start < N, length ≤ N
unfoldable pub valid_journal_interval : (n : ℕ) → JournalInterval → Bool
valid_journal_interval n indices = ltb indices.start n && leb indices.len n

-- it does not go past block N - 1
unfoldable pub contiguous_journal_interval : (n : ℕ) → JournalInterval → Bool
contiguous_journal_interval n indices = valid_journal_interval n indices && leb (indices.start + indices.len) n

-- block i is one of the interval's
unfoldable pub in_cyclic_range : (n i : ℕ) → JournalInterval → Bool
in_cyclic_range n i indices =
    leb indices.start i && ltb i (indices.start + indices.len)
    || leb indices.start (i + n) && ltb (i + n) (indices.start + indices.len)

-- front: the part up to the region's end, none of an empty interval
unfoldable pub journal_front_interval : (n start len : ℕ) → Option JournalInterval
journal_front_interval n start len =
    cond (eqb len 0) None (Some (interval start (cond (leb len (n - start)) len (n - start))))

-- back: the part from block 0 on, none where the interval does not wrap
unfoldable pub journal_back_interval : (n start len : ℕ) → Option JournalInterval
journal_back_interval n start len =
    cond (eqb len 0) None (cond (leb len (n - start)) None (Some (interval 0 (len - (n - start)))))

-- contained: a lies within b, as it stands or N places further on
unfoldable pub subinterval : (n : ℕ) → JournalInterval → JournalInterval → Bool
subinterval n a b =
    leb b.start a.start && leb (a.start + a.len) (b.start + b.len)
    || leb b.start (a.start + n) && leb (a.start + n + a.len) (b.start + b.len)

-- overlap of two intervals that do not wrap
unfoldable pub journal_interval_overlap : JournalInterval → JournalInterval → Bool
journal_interval_overlap a b = ltb b.start (a.start + a.len) && ltb a.start (b.start + b.len)

-- overlap of an interval that wraps, taken as its two parts, with one that does not
unfoldable pub wrapped_overlap : (n : ℕ) → JournalInterval → JournalInterval → Bool
wrapped_overlap n a b =
    journal_interval_overlap (interval a.start (n - a.start)) b
    || journal_interval_overlap (interval 0 (a.len - (n - a.start))) b

-- overlap: two that wrap always do, since both hold block 0
unfoldable pub journal_cyclic_interval_overlap : (n : ℕ) → JournalInterval → JournalInterval → Bool
journal_cyclic_interval_overlap n a b =
    cond (ltb n (a.start + a.len))
    (cond (ltb n (b.start + b.len)) true (wrapped_overlap n a b))
    (cond (ltb n (b.start + b.len)) (wrapped_overlap n b a) (journal_interval_overlap a b))

-- some number below k passes the test
unfoldable pub some_below : (k : ℕ) → (ℕ → Bool) → Bool
some_below zero test = false
some_below (suc k) test = test k || some_below k test

-- "some block number below N lies in both intervals, cyclically": document 02, paper 6
unfoldable pub shares_block : (n : ℕ) → JournalInterval → JournalInterval → Bool
shares_block n a b = some_below n (λ i. in_cyclic_range n i a && in_cyclic_range n i b)

-- next start: the block behind the interval's last
unfoldable pub next_start_point : (n : ℕ) → JournalInterval → ℕ
next_start_point n indices =
    cond (ltb (indices.start + indices.len) n) (indices.start + indices.len) (indices.start + indices.len - n)

-- the interval of a valid location's blocks
abbrev pub journal_interval_of_location : Location → JournalInterval
journal_interval_of_location loc = interval ((loc.addr - journal_start_addr) / 4096) (loc.len / 4096)
