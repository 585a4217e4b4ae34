-- `journal_image::copy_payloads` meets its contract: each turn writes the next payload behind those written, and
-- bytes behind it are as they were. Assumes nothing.
use native.Mathlib.Omega.{arith}
use Rattle.journal_image.proofs.Payloads.{none_over, payload_put}
use Rattle.journal_image.proofs.copy_payloads.Goals as goal

pub loop-k-init : goal.loop-k-init
loop-k-init c = none_over c.args.image.now c.args.out.now

pub loop-k-preserved : goal.loop-k-preserved
loop-k-preserved c =
    payload_put c.args.image.now c.args.out.now c.loop-k.out _ c.loop-k.k (omega arith) c.loop-k.invariant _ _ _
    (omega arith) (omega arith) c.copy_from_slice.ensures.after (omega arith)
