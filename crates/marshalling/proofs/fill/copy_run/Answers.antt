-- `marshalling::fill::copy_run` meets its contract: the run lies in one of the two parts, and ends where the definition
-- says. Assumes nothing.
use mathlib.Core.Path.{◌≡◌, sym, ap, ap₂, ◌∙◌}
use mathlib.Core.List.{◌++◌}
use Prim.Native.Nat.{ℕ, ◌+◌, ◌-◌}
use native.Mathlib.Omega.{arith}
use lib.ListN.{length, take, drop}
use Rattle.words.proofs.Splice.{run_right}
use Rattle.journal_entry.specs.Sequence.{joined}
use Rattle.marshalling.proofs.Runs.{run_in_first, run_in_second}
use Rattle.marshalling.proofs.fill.copy_run.Goals as goal

pub returns-then-i-front-clause-value : goal.returns-then-i-front-clause-value
returns-then-i-front-clause-value c =
    let f = c.args.forms.now in
    c.min-run.ensures
    ∙ rw (rw c.requires.dst_len at c.min-room.ensures)
    (sym (run_in_first f.ring.front.now f.ring.back.now f.at f.len f.inside c.args.done (omega arith)))

pub returns-clause-value : goal.returns-clause-value
returns-clause-value c =
    let f = c.args.forms.now in
    rw c.requires.dst_len at c.min-room.ensures
    ∙ sym (run_in_second f.ring.front.now f.ring.back.now f.at f.len f.inside c.args.done (omega arith)
    c.requires.more)

pub returns-clause-dst_new : goal.returns-clause-dst_new
returns-clause-dst_new c =
    let a = c.args in
    let f = a.forms.now in
    let j = f.at + a.done - length f.ring.front.now in
    let copied : c.copy_from_slice-2.new.self ≡ take c.min-room.result (drop (f.at + a.done) (joined f.ring)) =
    c.copy_from_slice-2.ensures.after
    ∙ ap (λ (n : ℕ). take n (drop j f.ring.back.now)) (omega arith)
    ∙ sym (run_right f.ring.front.now f.ring.back.now (f.at + a.done) c.min-room.result (omega arith)) in
    ap₂ ◌++◌ copied (ap (λ (n : ℕ). drop n a.dst.now) (omega arith))
