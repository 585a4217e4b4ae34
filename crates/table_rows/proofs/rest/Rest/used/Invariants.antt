-- `used` meets its contract: what is left tells the same of the whole. Assumes nothing.
use mathlib.Core.Path.{◌≡◌}
use Rattle.table_rows.specs.Rest.{Lies, taken}
use Rattle.table_rows.proofs.rest.Rest.used.Given as goal

abbrev pub invariant-loop-rest : goal.invariant-loop-rest
invariant-loop-rest l =
    record { lies : Lies l.table l.rest; tells : taken l.table l.rest ≡ taken l.table l.fn.self }

abbrev pub decreases-loop-rest : goal.decreases-loop-rest
decreases-loop-rest l = l.rest.rows.left
