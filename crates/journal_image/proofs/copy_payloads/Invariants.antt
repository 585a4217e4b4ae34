-- `journal_image::copy_payloads` meets its contract: each turn writes the next payload behind those written, and
-- bytes behind it are as they were. Assumes nothing.
use mathlib.Core.Path.{◌≡◌}
use Rattle.journal_image.specs.Image.{payloads_over}
use Rattle.journal_image.proofs.copy_payloads.Given as goal

abbrev pub invariant-loop-k : goal.invariant-loop-k
invariant-loop-k l = l.out ≡ payloads_over l.k l.image l.initial.out
