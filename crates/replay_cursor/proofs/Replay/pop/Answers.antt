-- `pop` meets its contract: the rest behind the entry that was found, if its counts hang together, or the refusal
-- of the tests. Assumes nothing.
use Rattle.std.proofs.lemmas.Result.{err_from_is_err_and}
use Rattle.refusals.proofs.Tests.{told}
use Rattle.replay_cursor.proofs.Rows.{Found, found, pop_found, pop_unhung}
use Rattle.replay_cursor.proofs.Rows.{pop_refused}
use Rattle.replay_cursor.proofs.Replay.pop.Goals as goal
use Rattle.replay_cursor.proofs.Replay.pop.Goals.{In_ok-p}

-- the entry behind the `?`
here : (c : In_ok-p)
    → Found c.args.self c.args.replay.now
    c.in_ok-p.p
here c = found _ _ _ c.in_ok-p.ensures

pub returns-then-not-counts_hang : goal.returns-then-not-counts_hang
returns-then-not-counts_hang c =
    pop_unhung _ _ _ (here (goal.at.returns-then-not-counts_hang c).In_ok-p)
    (told c.counts_hang.ensures c.if-not-counts_hang.true)

pub returns-in_err-p : goal.returns-in_err-p
returns-in_err-p c =
    let p = err_from_is_err_and c.from_residual.result c.from_residual.ensures.1 in
    rw (p.1, p.2) (pop_refused _ _ _ c.in_err-p.ensures)

pub returns : goal.returns
returns c =
    pop_found _ _ _ (here (goal.at.returns c).In_ok-p)
    (told c.counts_hang.ensures c.if-not-counts_hang.false)
