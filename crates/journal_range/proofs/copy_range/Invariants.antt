-- The buffer, with the wire forms of what is left put behind the bytes copied, is always the buffer with all of them.
-- Assumes nothing.
use mathlib.Core.List.{◌++◌}
use lib.ListN.{length}
use Rattle.journal_entry.specs.Sequence.{joined}
use Rattle.journal_range.proofs.Loading.{Loading}
use Rattle.journal_range.proofs.copy_range.Given as goal

abbrev pub invariant-loop-batch : goal.invariant-loop-batch
invariant-loop-batch l = Loading (l.front ++ l.back) (joined l.rest) l.initial.dst l.dst l.done

abbrev pub decreases-loop-batch : goal.decreases-loop-batch
decreases-loop-batch l = length (joined l.rest)
