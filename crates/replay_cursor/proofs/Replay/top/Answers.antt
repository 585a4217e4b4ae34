-- `top` meets its contract: the entry that was found as its places, or the refusal of the tests.
-- Assumes nothing.
use Rattle.std.proofs.lemmas.Result.{err_from_is_err_and}
use Rattle.replay_cursor.proofs.Rows.{found, top_found, top_refused}
use Rattle.replay_cursor.proofs.Replay.top.Goals as goal

pub returns-in_err-p : goal.returns-in_err-p
returns-in_err-p c =
    let p = err_from_is_err_and c.from_residual.result c.from_residual.ensures.1 in
    rw (p.1, p.2) (top_refused _ _ _ c.in_err-p.ensures)

pub returns : goal.returns
returns c = top_found _ _ _ (found _ _ _ c.in_ok-p.ensures)
