-- `freeze` meets its contract: the sums stay small by what the test tells of the counts. Assumes nothing.
use mathlib.Core.Path.{◌≡◌}
use Prim.Native.Nat.{◌≤◌}
use native.Mathlib.Omega.{arith}
use Rattle.journalist.specs.Record.{list_weight, blocks_for}
use Rattle.journalist.specs.Changes.{frozen_record}
use Rattle.journalist.specs.Calls.{freeze_call}
use Rattle.journalist.proofs.Counts.{CountsOf, weight_high, weight_exact}
use Rattle.journalist.proofs.Facts.{facts}
use Rattle.journalist.proofs.Journalist.freeze.Goals as goal
use Rattle.journalist.proofs.Journalist.freeze.Goals.{After-blocks_for-more, In_ok-checked}

-- the numbers of the record behind the test
counted : (c : In_ok-checked) → CountsOf c.args.self
counted c = (facts c.args.self c.in_ok-checked.ensures).counts

-- the blocks for the in-memory list, whose weight is exact in a ring
more : (c : After-blocks_for-more)
    → c.blocks_for-more.result ≡ blocks_for (list_weight c.args.self.memory)
more c =
    let k = (facts c.args.self c.in_ok-checked.ensures).counts in
    let m = c.args.self.memory in
    rw (weight_exact m c.list_weight.result (omega arith) c.list_weight.ensures) at
    c.blocks_for-more.ensures

-- few, since the ring bounds the list
fits : (c : After-blocks_for-more) → c.blocks_for-more.result ≤ 2100
unfolding blocks_for
fits c =
    let k = (facts c.args.self c.in_ok-checked.ensures).counts in
    omega (arith, more c, weight_high c.args.self.memory)

pub last_freeze-requires : goal.last_freeze-requires
last_freeze-requires c = more (goal.at.last_freeze-requires c).After-blocks_for-more

pub overflow_add-result : goal.overflow_add-result
overflow_add-result c = omega (arith, counted (goal.at.overflow_add-result c).In_ok-checked)

pub overflow_add-result-2 : goal.overflow_add-result-2
overflow_add-result-2 c = omega (arith, counted (goal.at.overflow_add-result-2 c).In_ok-checked)

pub overflow_add-result-3 : goal.overflow_add-result-3
overflow_add-result-3 c =
    omega (
      arith,
      counted (goal.at.overflow_add-result-3 c).In_ok-checked,
      fits (goal.at.overflow_add-result-3 c).After-blocks_for-more,
    )

pub returns : goal.returns
unfolding freeze_call frozen_record
returns c = simp (c.in_ok-checked.ensures, more (goal.at.returns c).After-blocks_for-more, c.last_freeze.ensures)
