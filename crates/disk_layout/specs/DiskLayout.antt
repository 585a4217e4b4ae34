-- Addresses of the journal's blocks: BlockCacheSystem/DiskLayout.i.dfy, its journal part, with N (here n) for
-- `NumJournalBlocks()`. Superblocks, indirection tables and node locations are left out (document 01, "Places in
-- the region"). Assumes nothing.
use Rattle.std.specs.Prelude.{Bool, ◌&&◌, ℕ, ◌+◌, ◌-◌, ◌*◌, ◌/◌, ◌%◌, leb, ltb, eqb}
use Rattle.disk_layout.specs.declared.Location.{Location}

-- N, the region's blocks, is 1 to 1,024 (document 01, "Opening")
abbrev pub blocks_in_range : (n : ℕ) → Bool
blocks_in_range n = leb 1 n && leb n 1024

-- the first byte of block 0
abbrev pub journal_start_addr : ℕ
journal_start_addr = 2 * 4096

-- the first byte behind the last block
abbrev pub journal_end_addr : (n : ℕ) → ℕ
journal_end_addr n = journal_start_addr + n * 4096

-- block i is at byte 8,192 + 4,096 × i
abbrev pub journal_point : (point : ℕ) → ℕ
journal_point point = journal_start_addr + point * 4096

-- whole blocks that start in the region and end in it, their end a 64-bit number
unfoldable pub valid_journal_location : (n : ℕ) → Location → Bool
valid_journal_location n loc =
    eqb (loc.addr % 4096) 0
    && eqb (loc.len % 4096) 0
    && leb (2 * 4096) loc.addr
    && ltb ((loc.addr - 2 * 4096) / 4096) n
    && leb loc.addr (0xffff_ffff_ffff_ffff - loc.len)
    && leb (loc.addr + loc.len) ((2 + n) * 4096)

-- where the blocks of an interval that does not wrap lie
abbrev pub journal_range_location : (start len : ℕ) → Location
journal_range_location start len = record { addr = journal_point start; len = len * 4096 }
