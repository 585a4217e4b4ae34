-- `crc32c::with_due` meets its contract. The invariant: the registers and the bytes that are left come to what they
-- came to at first. Assumes nothing.
use mathlib.Core.Path.{◌≡◌, refl, ap, ◌∙◌}
use mathlib.Core.List.{foldl}
use Prim.Native.Nat.{ℕ, ◌≤◌, ◌-◌}
use native.Mathlib.Omega.{arith}
use lib.Bits.{bit_xor}
use lib.ListN.{length, get_or, drop}
use Rattle.crc32c.proofs.Lanes.{word_in_front, left_behind, left_bytes, in_rotation, due_turn, due_end}
use Rattle.crc32c.proofs.with_due.Goals as goal

pub loop-word-init : goal.loop-word-init
loop-word-init c =
    let none : length c.args.s.now - length c.args.s.now ≡ 0 = omega arith in record {
      four = omega arith;
      left = rw none;
      same = refl;
    }

pub loop-word-smaller : goal.loop-word-smaller
loop-word-smaller c = omega (arith, c.in-Some.ensures.cases)

pub loop-word-preserved : goal.loop-word-preserved
loop-word-preserved c =
    let at = c.loop-word in
    let s = c.args.s.now in
    let rest = at.rest.now in
    let cut = c.in-Some.ensures.cases in
    let bytes = left_bytes s rest (λ k. (c.type_inv.s k).fits) at.invariant.left in
    let w = word_in_front rest c.in-Some.word.now _ (omega (arith, cut)) cut.0 c.from_le_bytes.ensures in
    record {
      four = refl;
      left = left_behind s rest c.in-Some.behind.now at.invariant.left cut.1 cut.2;
      same = rw cut.1 (due_turn rest bytes _ _ _ _ 0 _ _ (omega (arith, cut)) w c.step_word.ensures
          ∙ in_rotation at.registers rest at.invariant.four
          ∙ at.invariant.same);
    }

pub returns : goal.returns
returns c =
    let at = c.loop-word in
    let r = at.registers in
    ap (λ (x : ℕ). bit_xor (bit_xor (bit_xor x (get_or r 1 0)) (get_or r 2 0)) (get_or r 3 0)) c.with_bytes.ensures
    ∙ due_end _ _ _ _ at.rest.now c.in_default.ensures.cases
    ∙ in_rotation r at.rest.now at.invariant.four
    ∙ at.invariant.same
