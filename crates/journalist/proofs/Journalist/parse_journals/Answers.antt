-- `parse_journals` meets its contract: what `load` answers of the recorded blocks of both sides, or 2.
-- Assumes nothing.
use mathlib.Core.Path.{◌≡◌, sym, ap, ◌∙◌}
use Prim.Native.Nat.{◌*◌, ◌-◌}
use native.Mathlib.Omega.{arith}
use Rattle.std.proofs.lemmas.Result.{err_from_is_err_and}
use Rattle.refusals.specs.Outcome.{Outcome, gives, into}
use Rattle.refusals.specs.Answers.{outcome_of}
use Rattle.refusals.proofs.Tests.{told}
use Rattle.journal_range.specs.declared.RangeTotals.{RangeTotals}
use Rattle.journalist.proofs.Recovering.{loaded, LoadAnswered, load_told}
use Rattle.journalist.proofs.Journalist.parse_journals.Goals as goal
use Rattle.journalist.proofs.Journalist.parse_journals.Goals.{After-load}

answered : (c : After-load) (o : Outcome RangeTotals) → o ≡ outcome_of c.load.result
    → LoadAnswered c.args.self c.args.front.now c.args.back.now c.args.replay.now (into (loaded c.args.self) o)
    c.load.new.replay
answered c o e =
    let a = c.args in
    load_told a.self a.front.now a.back.now a.replay.now (4064 * c.unwrap_or-f.result - 0)
    (4064 * c.unwrap_or-b.result - 0) (told c.sides_hang.ensures c.if-not-sides_hang.false)
    (omega (arith, c.unwrap_or-f.ensures)) (omega (arith, c.unwrap_or-b.ensures)) o
    (e ∙ c.load.ensures.answer) _ c.load.ensures.buffer

pub returns-in_err-loaded : goal.returns-in_err-loaded
returns-in_err-loaded c =
    let p = err_from_is_err_and c.from_residual.result c.from_residual.ensures.1 in
    let told = answered (goal.at.returns-in_err-loaded c).After-load _ (sym (ap outcome_of c.in_err-loaded.was)) in
    record { result_value = rw (p.1, p.2) told.0; replay_new = told.1 }

pub returns : goal.returns
returns c =
    let told = answered (goal.at.returns c).After-load (gives c.in_ok-loaded.loaded)
    (sym (ap outcome_of c.in_ok-loaded.was)) in
    record { result_value = told.0; replay_new = told.1 }
