-- `journal_c::journal_strip` meets its contract: the block that is named is one of the image's. Assumes nothing.
use mathlib.Core.Path.{◌∙◌}
use Prim.Native.Nat.{◌/◌}
use native.Mathlib.Omega.{arith}
use lib.ListN.{length}
use Rattle.journal_image.proofs.Outcomes.{answer_told, named_below}
use Rattle.journal_c.proofs.CardCalls.{named_small}
use Rattle.journal_c.proofs.journal_strip.Goals as goal

pub number-requires : goal.number-requires
number-requires c =
    named_small _ (length c.args.image.now / 4096) (omega (arith, c.well_formed)) λ number block e.
    named_below c.args.image.now c.args.out.now number block
    (answer_told c.strip.ensures.result_value c.in-Err.is ∙ e)
