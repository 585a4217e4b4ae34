-- The sums so far, with those of what is left, are always those of the whole; a batch has a block at least, so the
-- loop ends. Assumes nothing.
use lib.ListN.{length}
use Rattle.journal_range.proofs.Totals.{Summed}
use Rattle.journal_range.proofs.range_in.Given as goal

abbrev pub invariant-loop-rest : goal.invariant-loop-rest
invariant-loop-rest g l =
    Summed (g.P.ByteSequence.bytes l.payload) (g.P.ByteSequence.bytes l.rest) l.entries l.bytes

abbrev pub decreases-loop-rest : goal.decreases-loop-rest
decreases-loop-rest g l = length (g.P.ByteSequence.bytes l.rest)
