-- `behind_passed` meets its contract: what is left tells the same of the whole, and is what is left behind the rows
-- passed. Assumes nothing.
use mathlib.Core.Path.{◌≡◌}
use Rattle.table_rows.specs.Places.{passing}
use Rattle.table_rows.specs.Rest.{Lies, taken}
use Rattle.table_rows.proofs.Skipping.{skipped}
use Rattle.table_rows.proofs.rest.Rest.behind_passed.Given as goal

abbrev pub invariant-loop-rest : goal.invariant-loop-rest
invariant-loop-rest l =
    record {
      lies : Lies l.table l.rest;
      tells : taken l.table l.rest ≡ taken l.table l.fn.self;
      skips : skipped (passing l.pass l.key) l.table l.rest.rows
          ≡ skipped (passing l.pass l.key) l.table l.fn.self.rows;
    }

abbrev pub decreases-loop-rest : goal.decreases-loop-rest
decreases-loop-rest l = l.rest.rows.left
