-- What a record tells of its numbers whose counts hang together but for the last freeze, and back. Assumes nothing.
use Rattle.std.specs.Prelude.{Option, None, Some}
use Prim.Native.Nat.{ℕ, ◌+◌, ◌*◌, ◌-◌, ◌≤◌, ◌<◌, min, max}
use mathlib.Core.Bool.{Bool, true, false, cond, ◌&&◌}
use mathlib.Core.Path.{◌≡◌, refl, sym}
use native.Mathlib.Omega.{arith}
use lib.Dec.{leb, ltb, eqb}
use borrow.Author.Tests.{le-leb, lt-ltb, eq-eqb, leb-true, ltb-true, eqb-true, eqb-false}
use Rattle.disk_layout.specs.DiskLayout.{blocks_in_range}
use Rattle.disk_layout.proofs.Intervals as intervals
use Rattle.refusals.proofs.Tests.{both, never, impossible}
use Rattle.replay_cursor.specs.Cursor.{counts_hang}
use Rattle.replay_cursor.proofs.Counts.{counts_least, counts_most, counts_true}
use Rattle.journalist.specs.Record.{in_range, list_weight, start_hangs, region_hangs, side_hangs, base_hangs}
use Rattle.journalist.specs.Recovery.{side_blocks}
use Rattle.journalist.specs.declared.Pending.{Pending}
use Rattle.journalist.specs.declared.Journalist.{Journalist}

-- N and R
pub record InRange (n r : ℕ) : Type 0 where
  pub low : 1 ≤ n
  pub high : n ≤ 1024
  pub ring : r ≤ 8388608

pub range_facts : (n r : ℕ) → in_range n r ≡ true → InRange n r
unfolding in_range
range_facts n r h =
    let p = both (blocks_in_range n) (leb r 8388608) h in
    let b = intervals.range_facts n p.0 in
    record { low = b.0; high = b.1; ring = leb-true r 8388608 p.1 }

pub range_true : (n r : ℕ) → InRange n r → in_range n r ≡ true
unfolding in_range
range_true n r f = simp (le-leb 1 n f.low, le-leb n 1024 f.high, le-leb r 8388608 f.ring)

-- the place of the first pending byte, without cases
pub start_fact : (r s : ℕ) → start_hangs r s ≡ true → s < max r 1
unfolding start_hangs
start_fact r s h = go (eqb r 0) refl h
  where
    go : (t : Bool) → eqb r 0 ≡ t → cond t (eqb s 0) (ltb s r) ≡ true → s < max r 1
    go true q k = omega (arith, eqb-true s 0 k)
    go false q k = omega (arith, ltb-true s r k)

pub start_true : (r s : ℕ) → s < max r 1 → start_hangs r s ≡ true
unfolding start_hangs
start_true r s h = go (eqb r 0) refl
  where
    go : (t : Bool) → eqb r 0 ≡ t → cond t (eqb s 0) (ltb s r) ≡ true
    go true q = let z : r ≡ 0 = eqb-true r 0 q in eq-eqb s 0 (omega arith)
    go false q = lt-ltb s r (omega (arith, eqb-false r 0 q))

-- the weight: at most 8 more than the bytes, and without cases where a list with no entries has no bytes
pub weight_high : (l : Pending) → list_weight l ≤ l.bytes + 8
unfolding list_weight
weight_high l = go (eqb l.entries 0)
  where
    go : (t : Bool) → cond t 0 (l.bytes + 8) ≤ l.bytes + 8
    go true = omega arith
    go false = omega arith

pub weight_is : (l : Pending) → l.bytes ≤ 8388608 * l.entries → list_weight l ≡ l.bytes + 8 * min l.entries 1
unfolding list_weight
weight_is l h = go (eqb l.entries 0) refl
  where
    go : (t : Bool) → eqb l.entries 0 ≡ t → cond t 0 (l.bytes + 8) ≡ l.bytes + 8 * min l.entries 1
    go true q = let z : l.entries ≡ 0 = eqb-true l.entries 0 q in omega arith
    go false q = omega (arith, eqb-false l.entries 0 q)

pub weight_none : (l : Pending) → l.entries ≡ 0 → list_weight l ≡ 0
unfolding list_weight
weight_none l z = simp z

-- a weight of a list of a ring is far below the largest number, at which `list_weight` stops
pub weight_exact : (l : Pending) (w : ℕ) → l.bytes ≤ 8388608 → w ≡ min (list_weight l) 0xffff_ffff_ffff_ffff
    → w ≡ list_weight l
weight_exact l w h e = omega (arith, weight_high l)

-- blocks of a region
pub record Region (n written held memory frozen : ℕ) : Type 0 where
  pub written_in_lem : written ≤ n
  pub held_in : held ≤ n
  pub memory_in : 4064 * (written + held) + memory ≤ 4064 * n
  pub frozen_in : frozen ≤ 4064 * held

pub region_facts : (n w d m f : ℕ) → region_hangs n w d m f ≡ true → Region n w d m f
unfolding region_hangs
region_facts n w d m f h =
    let p = both (leb w n && leb d n && leb (4064 * (w + d) + m) (4064 * n)) (leb f (4064 * d)) h in
    let q = both (leb w n && leb d n) (leb (4064 * (w + d) + m) (4064 * n)) p.0 in
    let s = both (leb w n) (leb d n) q.0 in
    record {
      written_in_lem = leb-true w n s.0;
      held_in = leb-true d n s.1;
      memory_in = leb-true (4064 * (w + d) + m) (4064 * n) q.1;
      frozen_in = leb-true f (4064 * d) p.1;
    }

pub region_true : (n w d m f : ℕ) → Region n w d m f → region_hangs n w d m f ≡ true
unfolding region_hangs
region_true n w d m f k =
    simp (
      le-leb w n k.written_in_lem,
      le-leb d n k.held_in,
      le-leb (4064 * (w + d) + m) (4064 * n) k.memory_in,
      le-leb f (4064 * d) k.frozen_in,
    )

-- front and back
pub side_none : (n : ℕ) → side_hangs n None ≡ true
unfolding side_hangs
side_none n = refl

pub side_fact : (n k : ℕ) → side_hangs n (Some k) ≡ true → k ≤ n
unfolding side_hangs
side_fact n k h = leb-true k n h

pub side_true : (n k : ℕ) → k ≤ n → side_hangs n (Some k) ≡ true
unfolding side_hangs
side_true n k h = le-leb k n h

-- the same by the blocks, none where there is no side
pub side_most : (n : ℕ) (s : Option ℕ) → side_hangs n s ≡ true → side_blocks s ≤ n
side_most n None h = omega arith
side_most n (Some k) h = side_fact n k h

pub side_hangs_lem : (n : ℕ) (s : Option ℕ) → side_blocks s ≤ n → side_hangs n s ≡ true
side_hangs_lem n None h = side_none n
side_hangs_lem n (Some k) h = side_true n k h

-- the numbers of a record that hangs together: linear facts alone, so that `omega` reads and proves the whole of it
pub record Counts (n r start fe fb me mb clones written held : ℕ) : Type 0 where
  pub n_low : 1 ≤ n
  pub n_high : n ≤ 1024
  pub r_high : r ≤ 8388608
  pub start_in : start < max r 1
  pub pending_in : fb + mb ≤ r
  pub frozen_least : 8 * fe ≤ fb
  pub frozen_most : fb ≤ 8388608 * fe
  pub memory_least : 8 * me ≤ mb
  pub memory_most : mb ≤ 8388608 * me
  pub written_in_lem : written ≤ n
  pub held_in : held ≤ n
  pub region_in : 4064 * (written + held) + (mb + 8 * min me 1) ≤ 4064 * n
  pub frozen_in : fb + 8 * min fe 1 ≤ 4064 * held
  pub clones_in : clones ≤ fe + me

abbrev pub CountsOf : Journalist → Type 0
CountsOf j =
    Counts j.blocks j.ring j.start j.frozen.entries j.frozen.bytes j.memory.entries
    j.memory.bytes
    j.clones j.written j.held

pub record Base (j : Journalist) : Type 0 where
  pub counts : CountsOf j
  pub replay : counts_hang j.replay.entries j.replay.bytes ≡ true
  pub front : side_hangs j.blocks j.front ≡ true
  pub back : side_hangs j.blocks j.back ≡ true

-- the tests of `base_hangs` one by one
pub record Tests (j : Journalist) : Type 0 where
  pub ranged : in_range j.blocks j.ring ≡ true
  pub started : start_hangs j.ring j.start ≡ true
  pub filled : leb (j.frozen.bytes + j.memory.bytes) j.ring ≡ true
  pub region : region_hangs j.blocks j.written j.held (list_weight j.memory) (list_weight j.frozen) ≡ true
  pub frozen : counts_hang j.frozen.entries j.frozen.bytes ≡ true
  pub memory : counts_hang j.memory.entries j.memory.bytes ≡ true
  pub replay : counts_hang j.replay.entries j.replay.bytes ≡ true
  pub front : side_hangs j.blocks j.front ≡ true
  pub back : side_hangs j.blocks j.back ≡ true
  pub clones : leb j.clones (j.frozen.entries + j.memory.entries) ≡ true

pub tests : (j : Journalist) → base_hangs j ≡ true → Tests j
unfolding base_hangs
tests j h =
    let p9 = both _ _ h in
    let p8 = both _ _ p9.0 in
    let p7 = both _ _ p8.0 in
    let p6 = both _ _ p7.0 in
    let p5 = both _ _ p6.0 in
    let p4 = both _ _ p5.0 in
    let p3 = both _ _ p4.0 in
    let p2 = both _ _ p3.0 in
    let p1 = both _ _ p2.0 in
    record {
      ranged = p1.0;
      started = p1.1;
      filled = p2.1;
      region = p3.1;
      frozen = p4.1;
      memory = p5.1;
      replay = p6.1;
      front = p7.1;
      back = p8.1;
      clones = p9.1;
    }

-- and all of them are it; one that fails makes it fail
pub tests_all : (j : Journalist) → Tests j → base_hangs j ≡ true
unfolding base_hangs
tests_all j t =
    simp (
      t.ranged,
      t.started,
      t.filled,
      t.region,
      t.frozen,
      t.memory,
      t.replay,
      t.front,
      t.back,
      t.clones,
    )

pub tests_fail : (j : Journalist) → (Tests j → ⊥) → false ≡ base_hangs j
tests_fail j f = sym (never (base_hangs j) (λ h. f (tests j h)))

pub test_fails : (j : Journalist) (t : Bool) → (Tests j → t ≡ true) → t ≡ false → false ≡ base_hangs j
test_fails j t part fails = tests_fail j (λ h. clash t (part h) fails)
  where
    clash : (u : Bool) → u ≡ true → u ≡ false → ⊥
    clash true a b = impossible cc
    clash false a b = impossible cc

-- The tests that the code makes in the place of the region's: the blocks within N, and both lists, each within its
-- own blocks.
abbrev pub in_blocks : Pending → (blocks : ℕ) → Bool
in_blocks l blocks = leb (list_weight l) (4064 * blocks) && counts_hang l.entries l.bytes

abbrev pub lists_hang : Journalist → Bool
lists_hang j = in_blocks j.memory (j.blocks - j.written - j.held) && in_blocks j.frozen j.held

pub blocks_fit : {j : Journalist} → Tests j → leb (j.written + j.held) j.blocks ≡ true
blocks_fit {j} t = let g = region_facts _ _ _ _ _ t.region in
    le-leb (j.written + j.held) j.blocks (omega (arith, g.memory_in))

pub lists_fit : {j : Journalist} → Tests j → lists_hang j ≡ true
lists_fit {j} t =
    let g = region_facts _ _ _ _ _ t.region in
    simp (
      le-leb (list_weight j.memory) (4064 * (j.blocks - j.written - j.held)) (omega (arith, g.memory_in)),
      t.memory,
      le-leb (list_weight j.frozen) (4064 * j.held) g.frozen_in,
      t.frozen,
    )

-- what both lists' test tells
pub record ListsHang (j : Journalist) : Type 0 where
  pub region : region_hangs j.blocks j.written j.held (list_weight j.memory) (list_weight j.frozen) ≡ true
  pub frozen : counts_hang j.frozen.entries j.frozen.bytes ≡ true
  pub memory : counts_hang j.memory.entries j.memory.bytes ≡ true

pub lists_told : (j : Journalist) → j.written + j.held ≤ j.blocks → lists_hang j ≡ true → ListsHang j
lists_told j within h =
    let p = both (in_blocks j.memory (j.blocks - j.written - j.held)) (in_blocks j.frozen j.held) h in
    let m = both _ _ p.0 in
    let f = both _ _ p.1 in
    let memory_in = leb-true (list_weight j.memory) (4064 * (j.blocks - j.written - j.held)) m.0 in
    record {
      region = region_true _ _ _ _ _
          (record {
            written_in_lem = omega arith;
            held_in = omega arith;
            memory_in = omega arith;
            frozen_in = leb-true (list_weight j.frozen) (4064 * j.held) f.0;
          });
      frozen = f.1;
      memory = m.1;
    }

pub base_facts : (j : Journalist) → base_hangs j ≡ true → Base j
base_facts j h =
    let t = tests j h in
    let n = j.blocks in
    let r = j.ring in
    let fe = j.frozen.entries in
    let fb = j.frozen.bytes in
    let me = j.memory.entries in
    let mb = j.memory.bytes in
    let limits = range_facts n r t.ranged in
    let pending : fb + mb ≤ r = leb-true (fb + mb) r t.filled in
    let g = region_facts n j.written j.held (list_weight j.memory) (list_weight j.frozen) t.region in
    let fm : fb ≤ 8388608 * fe = counts_most fe fb t.frozen (omega arith) in
    let mm : mb ≤ 8388608 * me = counts_most me mb t.memory (omega arith) in
    record {
      counts = record {
        n_low = limits.low;
        n_high = limits.high;
        r_high = limits.ring;
        start_in = start_fact r j.start t.started;
        pending_in = pending;
        frozen_least = counts_least fe fb t.frozen;
        frozen_most = fm;
        memory_least = counts_least me mb t.memory;
        memory_most = mm;
        written_in_lem = g.written_in_lem;
        held_in = g.held_in;
        region_in = omega (arith, g.memory_in, weight_is j.memory mm);
        frozen_in = omega (arith, g.frozen_in, weight_is j.frozen fm);
        clones_in = leb-true j.clones (fe + me) t.clones;
      };
      replay = t.replay;
      front = t.front;
      back = t.back;
    }

pub base_together : (j : Journalist) → Base j → base_hangs j ≡ true
unfolding base_hangs
base_together j f =
    let k = f.counts in
    let mw = weight_is j.memory k.memory_most in
    let fw = weight_is j.frozen k.frozen_most in
    simp (
      range_true j.blocks j.ring (record { low = k.n_low; high = k.n_high; ring = k.r_high }),
      start_true j.ring j.start k.start_in,
      le-leb (j.frozen.bytes + j.memory.bytes) j.ring k.pending_in,
      region_true j.blocks j.written j.held (list_weight j.memory) (list_weight j.frozen)
          (record {
            written_in_lem = k.written_in_lem;
            held_in = k.held_in;
            memory_in = omega arith;
            frozen_in = omega arith;
          }),
      counts_true j.frozen.entries j.frozen.bytes k.frozen_least (λ z. omega arith),
      counts_true j.memory.entries j.memory.bytes k.memory_least (λ z. omega arith),
      f.replay,
      f.front,
      f.back,
      le-leb j.clones (j.frozen.entries + j.memory.entries) k.clones_in,
    )
