-- `is_before` meets its contract: the first eight bytes that differ decide, and else the lengths. Assumes nothing.
use mathlib.Core.Path.{◌∙◌}
use Prim.Native.Nat.{◌+◌, ◌-◌}
use native.Mathlib.Omega.{arith}
use Rattle.key_map.proofs.Agreeing.{agree_less, shorter_ends, eight_same, eight_order}
use Rattle.key_map.proofs.Compared.{is_before}
use Rattle.key_map.proofs.is_before.Goals as goal

pub returns-then-end-lt8 : goal.returns-then-end-lt8
returns-then-end-lt8 c = c.is_lt.ensures ∙ is_before c.args.a.now c.args.b.now c.cmp.result c.cmp.ensures

pub returns-then-x-y : goal.returns-then-x-y
returns-then-x-y c =
    let l = c.loop-i in
    eight_order c.args.a.now c.args.b.now l.i l.invariant
    (omega arith) (omega arith) c.eight_at-x.ensures.bytes c.eight_at-y.ensures.bytes c.eight_at-x.result
    c.eight_at-y.result c.eight_at-x.ensures.value c.eight_at-y.ensures.value
    c.if-x-y.true

pub loop-i-preserved : goal.loop-i-preserved
loop-i-preserved c =
    let l = c.loop-i in
    eight_same c.args.a.now c.args.b.now l.i l.invariant
    (omega arith) (omega arith) c.eight_at-x.ensures.bytes c.eight_at-y.ensures.bytes c.eight_at-x.result
    c.eight_at-y.result c.eight_at-x.ensures.value c.eight_at-y.ensures.value
    c.if-x-y.false

pub returns-then-x-y-2 : goal.returns-then-x-y-2
returns-then-x-y-2 c =
    let l = c.loop-i in
    let w = agree_less c.args.a.now c.args.b.now l.i (c.min-end.result - 8) (omega arith) l.invariant in
    eight_order c.args.a.now c.args.b.now (c.min-end.result - 8) w
    (omega arith) (omega arith) c.eight_at-x-2.ensures.bytes c.eight_at-y-2.ensures.bytes c.eight_at-x-2.result
    c.eight_at-y-2.result c.eight_at-x-2.ensures.value c.eight_at-y-2.ensures.value
    c.if-x-y-2.true

pub returns : goal.returns
returns c =
    let l = c.loop-i in
    let w = agree_less c.args.a.now c.args.b.now l.i (c.min-end.result - 8) (omega arith) l.invariant in
    shorter_ends c.args.a.now c.args.b.now (c.min-end.result - 8 + 8)
    (eight_same c.args.a.now c.args.b.now (c.min-end.result - 8) w
    (omega arith) (omega arith) c.eight_at-x-2.ensures.bytes c.eight_at-y-2.ensures.bytes c.eight_at-x-2.result
    c.eight_at-y-2.result c.eight_at-x-2.ensures.value c.eight_at-y-2.ensures.value
    c.if-x-y-2.false) (omega arith)
