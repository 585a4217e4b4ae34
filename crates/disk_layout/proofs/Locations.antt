-- Laws of the definitions on locations. Assumes nothing.
use Prim.Native.Nat.{ℕ, ◌+◌, ◌-◌, ◌*◌, ◌/◌, ◌%◌, ◌≤◌, ◌<◌}
use mathlib.Core.Bool.{true, ◌&&◌}
use mathlib.Core.Path.{◌≡◌}
use lib.Dec.{leb, ltb, eqb}
use native.Mathlib.Omega.{arith}
use borrow.Author.Tests.{leb-true, ltb-true, eqb-true, le-leb, lt-ltb, eq-eqb}
use Rattle.disk_layout.specs.declared.Location.{Location}
use Rattle.disk_layout.specs.declared.JournalInterval.{JournalInterval}
use Rattle.disk_layout.specs.DiskLayout.{blocks_in_range, journal_start_addr, journal_end_addr, journal_point}
use Rattle.disk_layout.specs.DiskLayout.{valid_journal_location, journal_range_location}
use Rattle.disk_layout.specs.JournalInterval.{interval, contiguous_journal_interval, journal_interval_of_location}
use Rattle.std.proofs.lemmas.Bool.Decides.{nat_tests}
use Rattle.refusals.proofs.Tests.{both, same}
use Rattle.disk_layout.proofs.Intervals.{range_facts, contiguous_facts, contiguous_true}

-- the numbers of a valid location
pub record InRegion (n : ℕ) (loc : Location) : Type 0 where
  pub addr_whole : loc.addr % 4096 ≡ 0
  pub len_whole : loc.len % 4096 ≡ 0
  pub low : 8192 ≤ loc.addr
  pub high : loc.addr < (2 + n) * 4096
  pub end : loc.addr + loc.len ≤ (2 + n) * 4096

pub location_facts : (n : ℕ) (loc : Location) → valid_journal_location n loc ≡ true → InRegion n loc
unfolding valid_journal_location
location_facts n loc h =
    let a = loc.addr in
    let l = loc.len in
    let t1 = eqb (a % 4096) 0 in
    let t2 = t1 && eqb (l % 4096) 0 in
    let t3 = t2 && leb 8192 a in
    let t4 = t3 && ltb ((a - 8192) / 4096) n in
    let t5 = t4 && leb a (0xffff_ffff_ffff_ffff - l) in
    let p5 = both t5 (leb (a + l) ((2 + n) * 4096)) h in
    let p4 = both t4 (leb a (0xffff_ffff_ffff_ffff - l)) p5.0 in
    let p3 = both t3 (ltb ((a - 8192) / 4096) n) p4.0 in
    let p2 = both t2 (leb 8192 a) p3.0 in
    let p1 = both t1 (eqb (l % 4096) 0) p2.0 in
    let start = ltb-true ((a - 8192) / 4096) n p3.1 in
    record {
      addr_whole = eqb-true (a % 4096) 0 p1.0;
      len_whole = eqb-true (l % 4096) 0 p1.1;
      low = leb-true 8192 a p2.1;
      high = omega arith;
      end = leb-true (a + l) ((2 + n) * 4096) p5.1;
    }

pub location_true : (n : ℕ) (loc : Location) → n ≤ 1024 → InRegion n loc → valid_journal_location n loc ≡ true
unfolding valid_journal_location
location_true n loc h f =
    let a = loc.addr in
    let l = loc.len in
    simp (
      eq-eqb (a % 4096) 0 f.addr_whole,
      eq-eqb (l % 4096) 0 f.len_whole,
      le-leb 8192 a f.low,
      lt-ltb ((a - 8192) / 4096) n (omega arith),
      le-leb a (0xffff_ffff_ffff_ffff - l) (omega arith),
      le-leb (a + l) ((2 + n) * 4096) f.end,
    )

-- the tests of a location, its end compared without a sum
pub location_tests : (n : ℕ) (loc : Location) → n ≤ 1024
    → valid_journal_location n loc
    ≡ (eqb (loc.addr % 4096) 0 && eqb (loc.len % 4096) 0 && leb 8192 loc.addr && ltb loc.addr ((2 + n) * 4096)
    && leb loc.len ((2 + n) * 4096 - loc.addr))
location_tests n loc h =
    same (valid_journal_location n loc) _ (λ v. let f = location_facts n loc v in grind (arith, nat_tests))
    (λ t. location_true n loc h (grind (arith, nat_tests)))

pub location_low : (n : ℕ) (loc : Location) → valid_journal_location n loc ≡ true → 8192 ≤ loc.addr
location_low n loc h = (location_facts n loc h).low

-- an interval that does not wrap has a valid location
pub location_valid : (n : ℕ) (i : JournalInterval) → blocks_in_range n ≡ true → contiguous_journal_interval n i ≡ true
    → valid_journal_location n (journal_range_location i.start i.len) ≡ true
location_valid n i h v =
    let r = range_facts n h in
    let f = contiguous_facts n i v in
    location_true n (journal_range_location i.start i.len) r.1 (omega arith)

-- a valid location's interval does not wrap
pub interval_contiguous : (n : ℕ) (loc : Location) → valid_journal_location n loc ≡ true
    → contiguous_journal_interval n (journal_interval_of_location loc) ≡ true
interval_contiguous n loc v =
    let f = location_facts n loc v in
    contiguous_true n (journal_interval_of_location loc) (omega arith) (omega arith)

-- a valid location is that of its interval
pub location_of_interval : (n : ℕ) (loc : Location) → valid_journal_location n loc ≡ true
    → journal_range_location (journal_interval_of_location loc).start (journal_interval_of_location loc).len ≡ loc
location_of_interval n loc v =
    let f = location_facts n loc v in
    let a : journal_point ((loc.addr - 8192) / 4096) ≡ loc.addr = omega arith in
    let l : loc.len / 4096 * 4096 ≡ loc.len = omega arith in
    rw (a, l)

-- an interval is that of its location
pub interval_of_location : (start len : ℕ)
    → journal_interval_of_location (journal_range_location start len) ≡ interval start len
interval_of_location start len =
    let s : (journal_point start - 8192) / 4096 ≡ start = omega arith in
    let l : len * 4096 / 4096 ≡ len = omega arith in
    rw (s, l)

-- a valid location lies between the region's first byte and its end
pub location_between : (n : ℕ) (loc : Location) → valid_journal_location n loc ≡ true
    → (journal_start_addr ≤ loc.addr) × (loc.addr + loc.len ≤ journal_end_addr n)
location_between n loc h = let f = location_facts n loc h in (f.low, omega arith)
