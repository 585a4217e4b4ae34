-- The sums so far, with those of what is left, are always those of the whole; a batch has a block at least, so the
-- loop ends. Assumes nothing.
use mathlib.Core.Path.{◌∙◌}
use native.Mathlib.Omega.{arith}
use Rattle.journal_range.proofs.Totals.{summed_no, summed_more}
use Rattle.journal_range.proofs.range_in.Goals as goal

pub returns-in_err-batch : goal.returns-in_err-batch
returns-in_err-batch g c =
    c.from_residual.ensures
    ∙ summed_no c.loop-rest.invariant c.batch_in.result c.batch_in.ensures c.len-in-loop-rest.result
    c.len-in-loop-rest.ensures (omega arith)
    c.in_err-batch.was

pub loop-rest-preserved : goal.loop-rest-preserved
loop-rest-preserved g c =
    summed_more c.loop-rest.invariant c.batch_in.result c.batch_in.ensures c.in_ok-batch.batch c.in_ok-batch.was
    c.blocks-in-loop-rest.result c.blocks-in-loop-rest.ensures _
    c.from_block-rest.ensures
