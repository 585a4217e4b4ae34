-- `top_entry` meets its contract: each return is the row of `top_then` that its tests lead to.
-- Assumes nothing.
use mathlib.Core.Bool.{true, not}
use mathlib.Core.Path.{◌≡◌, refl, sym, ap}
use native.Mathlib.Omega.{arith}
use borrow.Author.Tests.{eq-eqb}
use Rattle.refusals.proofs.Tests.{told}
use Rattle.replay_cursor.specs.Cursor.{lies_in}
use Rattle.replay_cursor.proofs.Rows.{place_exactly, lies_facts, place_given}
use Rattle.replay_cursor.proofs.Replay.top_entry.Goals as goal
use Rattle.replay_cursor.proofs.Replay.top_entry.Goals.{Else-not-lies_in}

lies : (c : Else-not-lies_in) → lies_in c.args.self
    c.args.replay.now ≡ true
lies c = told c.lies_in.ensures c.if-not-lies_in.false

pub returns-then-not-lies_in : goal.returns-then-not-lies_in
returns-then-not-lies_in c =
    sym ((place_exactly _ _).refused 2 (told c.lies_in.ensures c.if-not-lies_in.true))

pub returns-then-self-eq0 : goal.returns-then-self-eq0
returns-then-self-eq0 c =
    sym ((place_exactly _ _).refused 8
    (lies (goal.at.returns-then-self-eq0 c).Else-not-lies_in, ap not (eq-eqb _ _ c.if-self-eq0.true)))

pub overflow_add-end : goal.overflow_add-end
overflow_add-end c =
    let x = c.args in
    omega (arith, lies_facts x.self x.replay.now (lies (goal.at.overflow_add-end c).Else-not-lies_in))

pub returns : goal.returns
returns c =
    rw c.ok_or.ensures.value
    (place_given _ _ (lies (goal.at.returns c).Else-not-lies_in) c.if-self-eq0.false _ _ refl c.entry_at-read.ensures)
