-- `marshalling::fill::fill_runs` meets its contract. The invariant: so many bytes of the list are copied, the part
-- behind them is as it was, and that took as many runs as were made. Assumes nothing.
use mathlib.Core.Path.{◌≡◌, refl}
use Prim.Native.Nat.{◌+◌, ◌-◌, ◌≤◌, ◌<◌, min}
use native.Mathlib.Nat.{add_assoc}
use native.Mathlib.Omega.{arith}
use borrow.Author.Rules.{rules}
use lib.ListN.{length, length-append}
use Rattle.journal_entry.specs.Sequence.{joined}
use Rattle.marshalling.specs.Runs.{to_block_end}
use Rattle.marshalling.specs.Forms.{FormsTake}
use Rattle.marshalling.proofs.Filling.{runs_more, runs_done}
use Rattle.marshalling.proofs.Runs.{run_within, takes_none, takes_then, takes_one, takes_block}
use Rattle.marshalling.proofs.fill.fill_runs.Goals as goal
use Rattle.marshalling.proofs.fill.fill_runs.Goals.{After-copy_run-filled}

-- what is known where a run is copied
run_known : (c : After-copy_run-filled)
    → let f = c.args.forms.now in
    let done = c.args.done + c.loop-filled.filled in
    let r = c.copy_run-filled.result in
    (0 < r) × (r ≤ f.len - done) × (r ≤ to_block_end done) × FormsTake f done (done + r) 1
run_known c =
    let f = c.args.forms.now in
    takes_one f.ring.front.now f.ring.back.now f.at f.len f.inside (c.args.done + c.loop-filled.filled)
    c.copy_run-filled.result
    (omega arith) c.copy_run-filled.ensures.value

-- and where it ends
run_ends : (c : After-copy_run-filled)
    → c.loop-filled.filled + c.copy_run-filled.result ≤ c.min-end.result
run_ends c =
    let k = run_known c in
    run_within c.args.forms.now.len c.args.done c.loop-filled.filled c.min-end.result c.copy_run-filled.result
    (rw (c.requires, c.saturating_sub.ensures) at c.min-end.ensures) (omega arith) k.1 k.2

pub loop-filled-init : goal.loop-filled-init
loop-filled-init c =
    let f = c.args.forms.now in
    let e : c.args.done + 0 ≡ c.args.done = omega arith in
    (omega arith, refl, omega arith, refl, rw e (takes_none f.ring.front.now f.ring.back.now f.at f.len c.args.done))

pub overflow_add-filled : goal.overflow_add-filled
overflow_add-filled c =
    let k = run_ends (goal.at.overflow_add-filled c).After-copy_run-filled in omega arith

pub loop-filled-smaller : goal.loop-filled-smaller
loop-filled-smaller c =
    let k = (run_known (goal.at.loop-filled-smaller c).After-copy_run-filled).0 in
    let e = run_ends (goal.at.loop-filled-smaller c).After-copy_run-filled in
    omega arith

pub loop-filled-preserved : goal.loop-filled-preserved
loop-filled-preserved c =
    let a = c.args in
    let f = a.forms.now in
    let there : f.at + f.len ≤ length (joined f.ring) = rw length-append f.inside in
    let k = run_known (goal.at.loop-filled-preserved c).After-copy_run-filled in
    let on = add_assoc a.done c.loop-filled.filled c.copy_run-filled.result in
    let took = takes_then f.ring.front.now f.ring.back.now f.at f.len _ _ _ _ _ c.loop-filled.invariant.4 k.3 in (
      run_ends (goal.at.loop-filled-preserved c).After-copy_run-filled,
      search rules,
      omega arith,
      runs_more (joined f.ring) a.dst.now c.loop-filled.dst f.at f.len a.done c.loop-filled.filled there
          (omega arith) c.loop-filled.invariant.3 c.copy_run-filled.new.dst c.copy_run-filled.result k.1
          c.copy_run-filled.ensures.dst_new,
      rw on at took,
    )

pub returns : goal.returns
returns c =
    let a = c.args in
    let f = a.forms.now in
    let there : f.at + f.len ≤ length (joined f.ring) = rw length-append f.inside in
    let end = c.min-end.result in
    let e : c.loop-filled.filled ≡ end = omega arith in
    let m : end ≡ min (length a.dst.now) (f.len - a.done) = omega arith in
    let so_far = rw e at c.loop-filled.invariant in
    let ends = rw c.requires at m in record {
      dst_new = runs_done (joined f.ring) a.dst.now c.loop-filled.dst f.at f.len a.done end there (omega arith)
          so_far.3 c.zero_fill.new.dst m c.zero_fill.ensures;
      takes = takes_block f.ring.front.now f.ring.back.now f.at f.len f.inside a.done end _ ends so_far.4;
    }
