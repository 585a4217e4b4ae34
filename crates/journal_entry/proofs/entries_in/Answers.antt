-- `entries_in` meets its contract: the place of the counting walk is that of the walk.
-- Assumes nothing.
use mathlib.Core.List.{List}
use mathlib.Core.Path.{◌∙◌}
use Prim.Native.Nat.{ℕ}
use Rattle.journal_entry.proofs.Walks.{counted_end, counted_stops}
use Rattle.journal_entry.proofs.entries_in.Goals as goal
use Rattle.journal_entry.proofs.entries_in.Goals.{Start}
use Rattle.journal_entry.proofs.entries_in.Given.{Over}

abbrev read : (g : Over) → Start g → List ℕ
read g c = g.S.ByteSequence.bytes c.args.s.now

pub returns-in_err-counted_in : goal.returns-in_err-counted_in
returns-in_err-counted_in g c =
    c.from_residual.ensures
    ∙ counted_stops (read g (goal.at.returns-in_err-counted_in g c).Start) c.args.at c.args.end c.args.count
    c.counted_in.result c.counted_in.ensures c.in_err-counted_in.was

pub returns : goal.returns
returns g c =
    counted_end (read g (goal.at.returns g c).Start) c.args.at c.args.end c.args.count c.in_ok-counted_in.field-0
    c.counted_in.result c.counted_in.ensures c.in_ok-counted_in.was
