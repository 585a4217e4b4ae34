-- `marshalling::fill::fill_runs` meets its contract. The invariant: so many bytes of the list are copied, the part
-- behind them is as it was, and that took as many runs as were made. Assumes nothing.
use mathlib.Core.Path.{◌≡◌}
use mathlib.Core.List.{◌++◌}
use Prim.Native.Nat.{◌+◌, ◌-◌, ◌≤◌}
use lib.ListN.{length, take, drop}
use Rattle.marshalling.specs.Forms.{forms_bytes, FormsTake}
use Rattle.marshalling.proofs.fill.fill_runs.Given as goal

abbrev pub invariant-loop-filled : goal.invariant-loop-filled
invariant-loop-filled l = (l.filled ≤ l.end) × (length l.dst ≡ length l.initial.dst) × (l.runs ≤ l.filled)
    × (l.dst ≡ take l.filled (drop l.done (forms_bytes l.forms)) ++ drop l.filled l.initial.dst)
    × FormsTake l.forms l.done (l.done + l.filled) l.runs

abbrev pub decreases-loop-filled : goal.decreases-loop-filled
decreases-loop-filled l = l.end - l.filled
