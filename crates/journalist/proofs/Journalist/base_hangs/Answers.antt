-- `Journalist::base_hangs` meets its contract: a test that fails is one of `base_hangs`, or follows from it;
-- behind all but the last, the last decides. The ring bounds the lists' bytes, and N the blocks, so no sum or
-- product wraps. Assumes nothing.
use mathlib.Core.Bool.{true}
use mathlib.Core.Path.{◌≡◌, ap₂, ◌∙◌}
use Prim.Native.Nat.{◌+◌, ◌≤◌, max}
use native.Mathlib.Omega.{arith}
use lib.Dec.{leb}
use borrow.Author.Tests.{leb-true}
use Rattle.refusals.proofs.Tests.{told, same}
use Rattle.replay_cursor.proofs.Counts.{counts_least}
use Rattle.journalist.specs.Record.{in_range, base_hangs}
use Rattle.journalist.specs.Recovery.{side_blocks}
use Rattle.journalist.proofs.Counts.{range_facts, start_fact, start_true, side_most, side_hangs_lem, tests}
use Rattle.journalist.proofs.Counts.{tests_all, tests_fail, test_fails, blocks_fit, ListsHang, lists_fit}
use Rattle.journalist.proofs.Counts.{lists_told}
use Rattle.journalist.proofs.Journalist.base_hangs.Goals as goal
use Rattle.journalist.proofs.Journalist.base_hangs.Goals.{After-max-2, Else-not-both_within, Else-not-both_within-2}
use Rattle.journalist.proofs.Journalist.base_hangs.Goals.{Else-not-in_range, Else-not-lists_hang}

ranged_so : (c : Else-not-in_range) → in_range c.args.self.blocks c.args.self.ring ≡ true
ranged_so c = told c.in_range.ensures c.if-not-in_range.false

-- the lists' bytes, once the ring is known to hold them
bytes_so : (c : Else-not-both_within) → let j = c.args.self in j.frozen.bytes + j.memory.bytes ≤ 8388608
bytes_so c =
    let j = c.args.self in
    let limits = range_facts _ _ (told c.in_range.ensures c.if-not-in_range.false) in
    let k =
    leb-true (j.frozen.bytes + j.memory.bytes) j.ring
    (told c.both_within.ensures c.if-not-both_within.false) in
    omega (arith, limits.ring)

-- the blocks, once they are known to be within N
blocks_so : (c : Else-not-both_within-2) → let j = c.args.self in (j.written + j.held ≤ j.blocks) × (j.blocks ≤ 1024)
blocks_so c =
    let limits = range_facts _ _ (told c.in_range.ensures c.if-not-in_range.false) in
    (leb-true _ _ (told c.both_within-2.ensures c.if-not-both_within-2.false), limits.high)

lists_so : (c : Else-not-lists_hang) → ListsHang c.args.self
lists_so c =
    lists_told c.args.self (leb-true _ _ (told c.both_within-2.ensures c.if-not-both_within-2.false))
    (told c.lists_hang.ensures c.if-not-lists_hang.false)

-- the larger side, by both
sides : (c : After-max-2) → let j = c.args.self in
    c.max-2.result ≡ max (side_blocks j.front) (side_blocks j.back)
sides c = c.max-2.ensures ∙ ap₂ max c.unwrap_or.ensures c.unwrap_or-2.ensures

pub returns-then-not-in_range : goal.returns-then-not-in_range
returns-then-not-in_range c =
    test_fails _ _ (λ t. t.ranged) (told c.in_range.ensures c.if-not-in_range.true)

pub returns-then-max-self : goal.returns-then-max-self
returns-then-max-self c =
    let j = c.args.self in
    tests_fail j (λ t. omega (arith, start_fact j.ring j.start t.started, c.max.ensures, c.if-max-self.true))

pub returns-then-not-both_within : goal.returns-then-not-both_within
returns-then-not-both_within c =
    test_fails _ _ (λ t. t.filled) (told c.both_within.ensures c.if-not-both_within.true)

pub returns-then-not-both_within-2 : goal.returns-then-not-both_within-2
returns-then-not-both_within-2 c =
    test_fails c.args.self (leb (c.args.self.written + c.args.self.held) c.args.self.blocks)
    (blocks_fit {j = c.args.self}) (told c.both_within-2.ensures c.if-not-both_within-2.true)

pub lists_hang-requires : goal.lists_hang-requires
lists_hang-requires c =
    record {
      held_bound = blocks_so (goal.at.lists_hang-requires c).Else-not-both_within-2;
      bytes_bound = bytes_so (goal.at.lists_hang-requires c).Else-not-both_within;
    }

pub returns-then-not-lists_hang : goal.returns-then-not-lists_hang
returns-then-not-lists_hang c =
    test_fails _ _ lists_fit (told c.lists_hang.ensures c.if-not-lists_hang.true)

pub returns-then-not-counts_hang : goal.returns-then-not-counts_hang
returns-then-not-counts_hang c =
    test_fails _ _ (λ t. t.replay) (told c.counts_hang.ensures c.if-not-counts_hang.true)

pub returns-then-self-max : goal.returns-then-self-max
returns-then-self-max c =
    let j = c.args.self in
    tests_fail j (λ t. omega (
      arith,
      sides (goal.at.returns-then-self-max c).After-max-2,
      c.if-self-max.true,
      side_most j.blocks j.front t.front,
      side_most j.blocks j.back t.back,
    ))

-- the entries' sum stays small, since the ring bounds the bytes
pub overflow_add-result : goal.overflow_add-result
overflow_add-result c =
    omega (
      arith,
      bytes_so (goal.at.overflow_add-result c).Else-not-both_within,
      counts_least _ _ (lists_so (goal.at.overflow_add-result c).Else-not-lists_hang).frozen,
      counts_least _ _ (lists_so (goal.at.overflow_add-result c).Else-not-lists_hang).memory,
    )

-- behind all but the last, the last decides
pub returns : goal.returns
returns c =
    let j = c.args.self in
    let lists = lists_so (goal.at.returns c).Else-not-lists_hang in
    same (leb j.clones (j.frozen.entries + j.memory.entries)) (base_hangs j)
    (λ t. tests_all j
    (record {
      ranged = ranged_so (goal.at.returns c).Else-not-in_range;
      started =
          start_true j.ring j.start (omega (arith, c.max.ensures, c.if-max-self.false));
      filled = told c.both_within.ensures c.if-not-both_within.false;
      region = lists.region;
      frozen = lists.frozen;
      memory = lists.memory;
      replay = told c.counts_hang.ensures c.if-not-counts_hang.false;
      front = side_hangs_lem j.blocks j.front
          (omega (arith, sides (goal.at.returns c).After-max-2, c.if-self-max.false));
      back = side_hangs_lem j.blocks j.back
          (omega (arith, sides (goal.at.returns c).After-max-2, c.if-self-max.false));
      clones = t;
    }))
    (λ h. (tests j h).clones)
