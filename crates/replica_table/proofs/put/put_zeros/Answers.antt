-- `put_zeros` meets its contract: a run of zeros, or none. Assumes nothing.
use mathlib.Core.Path.{◌≡◌, sym, ap, ◌∙◌}
use Prim.Native.Nat.{ℕ, ◌-◌}
use native.Mathlib.Omega.{arith}
use lib.ListN.{drop, replicate, length-drop, length-replicate}
use lib.Seq.{length-take-le}
use Rattle.words.specs.Lists.{splice}
use Rattle.words.proofs.Splice.{splice_nil, put_mid_splice}
use Rattle.replica_table.proofs.put.put_zeros.Goals as goal

pub returns-then-from-to : goal.returns-then-from-to
returns-then-from-to c =
    let x = c.args in
    let long = length-take-le (x.to - x.from) (drop x.from x.dst.now) (omega (arith, length-drop x.from x.dst.now)) in
    put_mid_splice x.dst.now c.zero_fill.new.dst (replicate (x.to - x.from) 0) x.from (x.to - x.from)
    (c.zero_fill.ensures ∙ ap (λ (k : ℕ). replicate k 0) long) (length-replicate (x.to - x.from) 0)

pub returns-else-from-to : goal.returns-else-from-to
returns-else-from-to c =
    let x = c.args in
    let none : x.to - x.from ≡ 0 = omega arith in
    sym (ap (λ (k : ℕ). splice x.dst.now x.from (replicate k 0)) none ∙ splice_nil x.dst.now x.from)
