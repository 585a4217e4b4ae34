-- `fits` meets its contract: each row is tested, and what is left fits as the whole does. Assumes nothing.
use mathlib.Core.Path.{◌≡◌}
use Prim.Native.Nat.{◌-◌, ◌+◌}
use native.Mathlib.Omega.{arith}
use Rattle.replica_table.proofs.Looking.{fit_unread, fit_short, fit_long, fit_more, fit_ends}
use Rattle.replica_table.proofs.moved.Moved.fits.Goals as goal

pub returns-in_default : goal.returns-in_default
returns-in_default c =
    fit_unread _ _ _ _ _ _ _ c.loop.invariant (omega arith) _ c.row_at.ensures
    c.in_default.is

pub returns-then-n-self : goal.returns-then-n-self
returns-then-n-self c =
    fit_short _ _ _ _ _ _ _ c.loop.invariant (omega arith) _ c.row_at.ensures _ c.in-Some.is c.if-n-self.true

pub returns-then-room-n : goal.returns-then-room-n
returns-then-room-n c =
    fit_long _ _ _ _ _ _ _ c.loop.invariant (omega arith) _ c.row_at.ensures _ c.in-Some.is c.if-n-self.false
    c.if-room-n.true

pub loop-preserved : goal.loop-preserved
loop-preserved c =
    let less : c.args.self.rows - c.loop.counter - 1 ≡ c.args.self.rows - (c.loop.counter + 1) = omega arith in
    rw less at (fit_more _ _ _ _ _ _ _ c.loop.invariant (omega arith) _ c.row_at.ensures _ c.in-Some.is
    c.if-n-self.false c.if-room-n.false)

pub returns : goal.returns
returns c = fit_ends _ _ _ _ _ _ _ c.loop.invariant (omega arith)
