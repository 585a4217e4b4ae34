-- `marshalling::image::write_blocks` meets its contract. The invariant: the first k blocks are written, the part
-- behind them is as it was, and their bytes of the list took as many runs as were made. Assumes nothing.
use mathlib.Core.Path.{◌≡◌}
use mathlib.Core.List.{◌++◌}
use Prim.Native.Nat.{◌-◌, ◌*◌}
use lib.ListN.{drop}
use Rattle.marshalling.specs.Fill.{padded}
use Rattle.marshalling.specs.Forms.{batch_bytes, FormsTake}
use Rattle.marshalling.proofs.Images.{image_to}
use Rattle.marshalling.proofs.image.write_blocks.Given as goal

abbrev pub invariant-loop-k : goal.invariant-loop-k
invariant-loop-k l = (l.out ≡ image_to (padded (4064 * l.blocks) (batch_bytes l.batch)) l.k
    ++ drop (4096 * l.k) l.initial.out)
    × FormsTake l.batch.forms 0 (4064 * l.k - 8) l.runs
