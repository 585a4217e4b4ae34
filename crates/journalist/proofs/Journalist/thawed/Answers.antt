-- `Journalist::thawed` meets its contract: what is remembered is frozen, and the lists together lie in the ring.
-- Assumes nothing.
use native.Mathlib.Omega.{arith}
use Rattle.journalist.proofs.Counts.{CountsOf, base_facts}
use Rattle.journalist.proofs.Journalist.thawed.Goals as goal
use Rattle.journalist.proofs.Journalist.thawed.Goals.{Start}

counted : (c : Start) → CountsOf c.args.self
counted c = (base_facts c.args.self c.requires.self_value).counts

pub overflow_add-result : goal.overflow_add-result
overflow_add-result c =
    let k = counted (goal.at.overflow_add-result c).Start in
    omega (arith, c.requires.entries_le_entries, k.frozen_least, k.memory_least, k.pending_in, k.r_high)

pub overflow_add-result-2 : goal.overflow_add-result-2
overflow_add-result-2 c =
    let k = counted (goal.at.overflow_add-result-2 c).Start in
    omega (arith, c.requires.entries_le_entries, k.pending_in, k.r_high)
