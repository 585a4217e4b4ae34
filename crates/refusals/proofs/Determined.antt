-- Each outcome belongs to one answer, so a promise that gives the outcome leaves no choice. Assumes nothing.
use mathlib.Core.Path.{◌≡◌, ap}
use Rattle.std.specs.Prelude.{Result, Ok, Err}
use Rattle.refusals.specs.declared.Refusal.{Refusal}
use Rattle.refusals.specs.declared.ImageRefusal.{ImageRefusal}
use Rattle.refusals.specs.declared.ImageRefusal.TheVariants.{ChecksumDiffers, Plain}
use Rattle.refusals.specs.Answers.{outcome_of, image_outcome_of}
use Rattle.refusals.proofs.Numbers.{number_determines}
use Rattle.refusals.proofs.Outcomes.{gives_same, refuses_same}
use Rattle.refusals.proofs.Tests.{impossible}

pub answer_determines : {A : Type 0} (a b : Result A Refusal) → outcome_of a ≡ outcome_of b → a ≡ b
answer_determines (Ok a) (Ok b) h = ap Ok (gives_same h)
answer_determines (Ok a) (Err y) h = impossible cc
answer_determines (Err x) (Ok b) h = impossible cc
answer_determines (Err x) (Err y) h = ap Err (number_determines x y (refuses_same h))

-- the same where the lowest damaged block may be named
pub image_answer_determines : {A : Type 0} (a b : Result A ImageRefusal) → image_outcome_of a ≡ image_outcome_of b
    → a ≡ b
image_answer_determines (Ok a) (Ok b) h = ap Ok (gives_same h)
image_answer_determines (Ok a) (Err (ChecksumDiffers j)) h = impossible cc
image_answer_determines (Ok a) (Err (Plain y)) h = impossible cc
image_answer_determines (Err (ChecksumDiffers i)) (Ok b) h = impossible cc
image_answer_determines (Err (ChecksumDiffers i)) (Err (ChecksumDiffers j)) h = cc
image_answer_determines (Err (ChecksumDiffers i)) (Err (Plain y)) h = impossible cc
image_answer_determines (Err (Plain x)) (Ok b) h = impossible cc
image_answer_determines (Err (Plain x)) (Err (ChecksumDiffers j)) h = impossible cc
image_answer_determines (Err (Plain x)) (Err (Plain y)) h =
    ap (λ (why : Refusal). Err (Plain why)) (number_determines x y (refuses_same h))
