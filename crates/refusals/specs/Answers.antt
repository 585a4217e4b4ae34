-- What an answer of the code comes to, in document 01's terms. Assumes nothing.
use Rattle.std.specs.Prelude.{Result, Ok, Err}
use Rattle.refusals.specs.declared.Refusal.{Refusal}
use Rattle.refusals.specs.declared.ImageRefusal.{ImageRefusal}
use Rattle.refusals.specs.declared.ImageRefusal.TheVariants.{ChecksumDiffers, Plain}
use Rattle.refusals.specs.Outcome.{Outcome, gives, refuses, refuses_block}
use Rattle.refusals.specs.Refusals.{number_of}

abbrev pub outcome_of : {A : Type 0} → Result A Refusal → Outcome A
outcome_of (Ok result) = gives result
outcome_of (Err why) = refuses (number_of why)

-- the same where the lowest damaged block may be named
abbrev pub image_outcome_of : {A : Type 0} → Result A ImageRefusal → Outcome A
image_outcome_of (Ok result) = gives result
image_outcome_of (Err (ChecksumDiffers block)) = refuses_block 12 block
image_outcome_of (Err (Plain why)) = refuses (number_of why)
