-- `marshalling::image::write_blocks` meets its contract. The invariant: the first k blocks are written, the part
-- behind them is as it was, and their bytes of the list took as many runs as were made. Assumes nothing.
use mathlib.Core.Path.{◌≡◌, refl}
use Prim.Native.Nat.{◌+◌, ◌-◌, ◌*◌}
use native.Mathlib.Omega.{arith}
use Rattle.marshalling.specs.Marshall.{with_checksums}
use Rattle.marshalling.specs.Forms.{batch_bytes}
use Rattle.marshalling.proofs.Writing.{image_more}
use Rattle.marshalling.proofs.Runs.{takes_none, takes_then, takes_few}
use Rattle.marshalling.proofs.image.write_blocks.Goals as goal

pub loop-k-init : goal.loop-k-init
unfolding with_checksums
loop-k-init c =
    let f = c.args.batch.now.forms in
    (refl, takes_none f.ring.front.now f.ring.back.now f.at f.len 0)

pub overflow_add-runs : goal.overflow_add-runs
overflow_add-runs c =
    let f = c.args.batch.now.forms in
    let took = takes_then f.ring.front.now f.ring.back.now f.at f.len _ _ _ _ _ c.loop-k.invariant.1
    c.write_block-runs.ensures.takes in
    let next : 4064 * c.loop-k.k + 4064 - 8 ≡ 0 + (4064 * c.loop-k.k + 4064 - 8) = omega arith in
    let few = takes_few f.ring.front.now f.ring.back.now f.at f.len f.inside _ 0 _ (rw next at took) in omega arith

pub loop-k-preserved : goal.loop-k-preserved
loop-k-preserved c =
    let a = c.args in
    let f = a.batch.now.forms in
    let next : 4064 * (c.loop-k.k + 1) - 8 ≡ 4064 * c.loop-k.k + 4064 - 8 = omega arith in (
      image_more (batch_bytes a.batch.now) a.out.now c.loop-k.out c.write_block-runs.new.out a.blocks c.loop-k.k
          (omega arith) c.loop-k.invariant.0 c.write_block-runs.ensures.out_new,
      rw next
          (takes_then f.ring.front.now f.ring.back.now f.at f.len _ _ _ _ _ c.loop-k.invariant.1
          c.write_block-runs.ensures.takes),
    )

pub returns : goal.returns
returns c =
    let e : c.loop-k.k ≡ c.args.blocks = omega arith in
    let all = rw e at c.loop-k.invariant in record { out_new = all.0; takes = all.1 }
