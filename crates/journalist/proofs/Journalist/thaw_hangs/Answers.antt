-- `Journalist::thaw_hangs` meets its contract: each return is a law of the last freeze, by the tests that led there.
-- Assumes nothing.
use mathlib.Core.Path.{◌∙◌, ap}
use native.Mathlib.Omega.{arith}
use Rattle.journalist.proofs.Counts.{lists_hang, base_facts}
use Rattle.journalist.proofs.Facts.{last_fails, none_decides, thawed_pending, thawed_blocks, thaw_decides}
use Rattle.journalist.proofs.Journalist.thaw_hangs.Goals as goal

pub returns-then-self-ne0 : goal.returns-then-self-ne0
returns-then-self-ne0 c =
    last_fails c.args.self c.requires λ l. omega (arith, l.bytes_none, c.if-self-eq0.true, c.if-self-ne0.true)

pub returns-then-self-eq0 : goal.returns-then-self-eq0
returns-then-self-eq0 c = none_decides c.args.self c.requires c.if-self-eq0.true c.if-self-ne0.false

pub returns-then-self : goal.returns-then-self
returns-then-self c =
    last_fails c.args.self c.requires λ l. omega (arith, l.entries_in, c.if-self.true)

pub returns-then-self-2 : goal.returns-then-self-2
returns-then-self-2 c =
    last_fails c.args.self c.requires λ l. omega (arith, l.bytes_in, c.if-self-2.true)

pub returns-then-self-3 : goal.returns-then-self-3
returns-then-self-3 c =
    last_fails c.args.self c.requires λ l. omega (arith, l.blocks_in, c.if-self-3.true)

pub lists_hang-requires : goal.lists_hang-requires
lists_hang-requires c =
    let j = c.args.self in
    let k = (base_facts j c.requires).counts in
    let pending = thawed_pending j c.requires c.if-self-eq0.false c.if-self.false c.if-self-2.false c.if-self-3.false in
    let blocks = thawed_blocks j c.requires c.if-self-eq0.false c.if-self.false c.if-self-2.false c.if-self-3.false in
    record {
      held_bound = rw c.thawed-thawed.ensures (blocks, k.n_high);
      bytes_bound = rw c.thawed-thawed.ensures (omega (arith, pending, k.r_high));
    }

pub returns : goal.returns
returns c =
    c.lists_hang.ensures ∙ ap lists_hang c.thawed-thawed.ensures
    ∙ thaw_decides c.args.self c.requires c.if-self-eq0.false c.if-self.false c.if-self-2.false c.if-self-3.false
