-- The buffer, with the wire forms of what is left put behind the bytes copied, is always the buffer with all of them.
-- Assumes nothing.
use Rattle.journal_range.proofs.Loading.{loaded_more}
use Rattle.journal_range.proofs.Totals.{shorter}
use Rattle.journal_entry.specs.Sequence.{joined}
use Rattle.journal_range.proofs.copy_range.Goals as goal

pub loop-batch-smaller : goal.loop-batch-smaller
loop-batch-smaller c =
    shorter (joined c.loop-batch.rest) c.batch_in.result c.batch_in.ensures c.in-Some.batch c.in-Some.is
    c.blocks-in-Some.result c.blocks-in-Some.ensures _
    c.from_block-rest.ensures

pub loop-batch-preserved : goal.loop-batch-preserved
loop-batch-preserved c =
    loaded_more c.loop-batch.invariant c.batch_in.result c.batch_in.ensures c.in-Some.batch c.in-Some.is
    _
    c.joined_from.ensures _
    c.copy_front.ensures c.blocks-in-Some.result c.blocks-in-Some.ensures _
    c.from_block-rest.ensures
