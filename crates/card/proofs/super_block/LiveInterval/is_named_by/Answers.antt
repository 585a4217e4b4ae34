-- `card::super_block::LiveInterval::is_named_by` meets its contract: the fields, the zeros and then the checksum
-- decide. Assumes nothing.
use mathlib.Core.Path.{◌≡◌, refl, sym, ◌∙◌}
use mathlib.Core.List.{List}
use Prim.Native.Nat.{ℕ}
use lib.Dec.{eqb}
use lib.ListN.{take, drop}
use lib.Pointwise.{pointwise}
use Rattle.std.specs.Bool.{Decides}
use Rattle.std.proofs.lemmas.Slice.Eq.{slice_eq-Decides}
use Rattle.std.proofs.lemmas.Bool.Decides.{Decides-eqb}
use Rattle.refusals.proofs.Tests.{impossible}
use Rattle.card.proofs.Zeros.{all_zero_lem}
use Rattle.card.proofs.Written.{fields_differ, zeros_differ, agrees_decides}
use Rattle.card.proofs.super_block.LiveInterval.is_named_by.Goals as goal
use Rattle.card.proofs.super_block.LiveInterval.is_named_by.Goals.{then-eq, else-eq}

-- what `==` of the fields says
fields_same : (b f : List ℕ) → Decides (pointwise eqb (take 14 (drop 32 b)) f) (take 14 (drop 32 b) ≡ f)
fields_same b f = slice_eq-Decides Decides-eqb (take 14 (drop 32 b)) f _ refl

pub returns-then-all_zero : goal.returns-then-all_zero
returns-then-all_zero c =
    let b = c.args.block.now in
    let f = c.fields-fields.result in
    elim c.if-eq.branch [
      | then-eq w ↦
          agrees_decides b c.args.self.start c.args.self.len c.requires _ w.all_zero.result c.block_agrees.result f
          c.fields-fields.ensures (fields_same b f).0 (sym c.eq.ensures ∙ w.if-eq.true)
          (w.all_zero.ensures ∙ all_zero_lem _) (sym w.value-is ∙ c.if-all_zero.true) c.block_agrees.ensures
      | else-eq w ↦ let v = w.value-is in let t = c.if-all_zero.true in impossible cc
    ]

pub returns-else-all_zero : goal.returns-else-all_zero
returns-else-all_zero c =
    let b = c.args.block.now in
    let f = c.fields-fields.result in
    elim c.if-eq.branch [
      | then-eq w ↦
          c.if-all_zero.false
          ∙ zeros_differ b c.args.self.start c.args.self.len c.requires w.all_zero.result
          (w.all_zero.ensures ∙ all_zero_lem _) (sym w.value-is ∙ c.if-all_zero.false)
      | else-eq w ↦
          c.if-all_zero.false
          ∙ fields_differ b c.args.self.start c.args.self.len c.requires _ f c.fields-fields.ensures
          (fields_same b f).1 (sym c.eq.ensures ∙ w.if-eq.false)
    ]
