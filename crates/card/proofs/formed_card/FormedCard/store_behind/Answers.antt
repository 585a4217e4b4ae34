-- `card::formed_card::FormedCard::store_behind` meets its contract: a block of the image at its place, or block 0.
-- Assumes nothing.
use Prim.Native.Nat.{◌+◌, ◌*◌, ◌≤◌, ◌<◌}
use native.Mathlib.Omega.{arith}
use lib.ListN.{length}
use Rattle.disk_layout.proofs.Intervals.{range_facts}
use Rattle.card.specs.Calls.{image_blocks}
use Rattle.card.proofs.Formed.{formed_told}
use Rattle.card.proofs.StoreLaws.{block_put, lent_size, by_block}
use Rattle.card.proofs.formed_card.FormedCard.store_behind.Goals as goal
use Rattle.card.proofs.formed_card.FormedCard.store_behind.Goals.{After-advance-block}

-- the block is one of the region's
place_in : (c : After-advance-block)
    → (c.advance-block.result < 1024) × (8192 + 4096 * c.advance-block.result + 4096 ≤ length c.args.self.now.bytes.now)
place_in c =
    let card = c.args.self.now in
    let f = formed_told card.n card.bytes.now card.is in
    let few = (range_facts card.n card.few).1 in
    let below = c.advance-block.ensures.upper_bound
    (omega (arith, f.start_in, c.of-live.ensures.start))
    (omega (arith, c.of-live.ensures.len, c.requires.1, c.if-made-blocks.true)) in
    (omega arith, omega (arith, f.size))

pub overflow_mul-result : goal.overflow_mul-result
overflow_mul-result c = let h = (place_in (goal.at.overflow_mul-result c).After-advance-block).0 in omega arith

pub overflow_add-result : goal.overflow_add-result
overflow_add-result c = let h = (place_in (goal.at.overflow_add-result c).After-advance-block).0 in omega arith

pub returns-then-made-blocks-clause-fits : goal.returns-then-made-blocks-clause-fits
returns-then-made-blocks-clause-fits c = (
  lent_size c.args.made c.args.image.now (omega arith),
  (place_in (goal.at.returns-then-made-blocks-clause-fits c).After-advance-block).1,
)

pub returns-then-made-blocks-clause-value : goal.returns-then-made-blocks-clause-value
returns-then-made-blocks-clause-value c =
    let card = c.args.self.now in
    let f = formed_told card.n card.bytes.now card.is in
    by_block c.args.made (image_blocks c.args.image.now) _ _ _ c.if-made-blocks.true
    (block_put card.n card.bytes.now c.args.image.now c.args.made _ _ _ c.of-live.ensures.start c.of-live.ensures.len
    (c.advance-block.ensures.value (omega (arith, f.start_in, c.of-live.ensures.start))))

pub returns-clause-fits : goal.returns-clause-fits
returns-clause-fits c =
    let card = c.args.self.now in omega (arith, (formed_told card.n card.bytes.now card.is).size)
