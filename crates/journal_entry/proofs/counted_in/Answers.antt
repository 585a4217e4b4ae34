-- `counted_in` meets its contract: what is left to be read ends where all of it ends (`Walking`).
-- Assumes nothing.
use Prim.Native.Nat.{ℕ, ◌+◌, ◌-◌}
use mathlib.Core.List.{List}
use mathlib.Core.Path.{◌≡◌, sym, ◌∙◌}
use native.Mathlib.Omega.{arith}
use Rattle.journal_entry.proofs.Walks.{walk_back, walk_outside, walk_more}
use Rattle.journal_entry.proofs.Walks.{walk_stops, walk_ends}
use Rattle.journal_entry.proofs.counted_in.Goals as goal
use Rattle.journal_entry.proofs.counted_in.Goals.{Start, then-end-at-via-then-end-at}
use Rattle.journal_entry.proofs.counted_in.Goals.{then-end-at-via-else-end-at+then-len-end}
use Rattle.journal_entry.proofs.counted_in.Given.{Over}

abbrev read : (g : Over) → Start g → List ℕ
read g c = g.S.ByteSequence.bytes c.args.s.now

pub returns-then-end-at : goal.returns-then-end-at
returns-then-end-at g c =
    let x = c.args in
    let s = read g (goal.at.returns-then-end-at g c).Start in
    elim c.then-end-at.branch [
      | then-end-at-via-then-end-at w ↦ walk_back s x.at x.end x.count w.if-end-at.true
      | then-end-at-via-else-end-at+then-len-end w ↦
          walk_outside s x.at x.end x.count (omega (arith, w.len.ensures))
    ]

pub returns-in_err-entry : goal.returns-in_err-entry
returns-in_err-entry g c =
    let l = c.loop in
    c.from_residual.ensures
    ∙ walk_stops (read g (goal.at.returns-in_err-entry g c).Start) c.args.at c.args.end c.args.count l.place
    (c.args.count - l.counter)
    l.clones l.invariant
    (omega arith)
    (sym c.entry_at.ensures ∙ c.in_err-entry.was)

pub loop-preserved : goal.loop-preserved
loop-preserved g c =
    let l = c.loop in
    let less : c.args.count - l.counter - 1 ≡ c.args.count - (l.counter + 1) = omega arith in
    rw less at (walk_more (read g (goal.at.loop-preserved g c).Start) c.args.at c.args.end c.args.count l.place
    (c.args.count - l.counter)
    l.clones l.invariant
    (omega arith)
    c.in_ok-entry.entry (sym c.entry_at.ensures ∙ c.in_ok-entry.was)
    c.clones-clones.result c.clones-clones.ensures)

pub returns : goal.returns
returns g c =
    let l = c.loop in
    walk_ends (read g (goal.at.returns g c).Start) c.args.at c.args.end c.args.count l.place
    (c.args.count - l.counter) l.clones
    l.invariant (omega arith)
