-- `skip_rows` meets its contract: what is left is skipped as the whole is. Assumes nothing.
use mathlib.Core.Path.{◌≡◌}
use Rattle.table_rows.specs.Places.{passing}
use Rattle.table_rows.proofs.Skipping.{skipped}
use Rattle.table_rows.proofs.skip_rows.Given as goal

abbrev pub invariant-loop-rest : goal.invariant-loop-rest
invariant-loop-rest l = skipped (passing l.pass l.key) l.table l.rest ≡ skipped (passing l.pass l.key) l.table l.fn.rows

abbrev pub decreases-loop-rest : goal.decreases-loop-rest
decreases-loop-rest l = l.rest.left
