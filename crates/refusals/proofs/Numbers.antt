-- A number of the table belongs to one refusal, so a promise that gives the number gives the refusal. Assumes nothing.
use mathlib.Core.Path.{◌≡◌, refl, sym, ap, ◌∙◌}
use mathlib.Core.List.{List, [], ◌∷◌}
use Prim.Native.Nat.{ℕ}
use lib.ListN.{get_or}
use Rattle.refusals.specs.declared.Refusal.{Refusal}
use Rattle.refusals.specs.declared.Refusal.TheVariants.{SizeOutOfRange, CountsDisagree, FirstTooLong}
use Rattle.refusals.specs.declared.Refusal.TheVariants.{SecondTooLong, RegionFull, RingFull, EntriesPending}
use Rattle.refusals.specs.declared.Refusal.TheVariants.{NothingThere, OutputTooShort, LengthTooLarge}
use Rattle.refusals.specs.declared.Refusal.TheVariants.{ImageNotWhole, PayloadNotWhole, Unreadable}
use Rattle.refusals.specs.declared.Refusal.TheVariants.{RingUnreadable, PlaceNotValid, NoFreeze, CardUnformed}
use Rattle.refusals.specs.declared.Refusal.TheVariants.{CardFull, KeyTooLong, TableFull, NoKey}
use Rattle.refusals.specs.Refusals.{number_of}

-- the refusals at their numbers; places 0 and 12 are never looked at
abbrev rows : List Refusal
rows =
    SizeOutOfRange ∷ SizeOutOfRange ∷ CountsDisagree ∷ FirstTooLong ∷ SecondTooLong ∷ RegionFull ∷ RingFull
    ∷ EntriesPending ∷ NothingThere
    ∷ OutputTooShort ∷ LengthTooLarge ∷ ImageNotWhole ∷ ImageNotWhole ∷ PayloadNotWhole ∷ Unreadable
    ∷ RingUnreadable ∷ PlaceNotValid ∷ NoFreeze ∷ CardUnformed ∷ CardFull ∷ KeyTooLong ∷ TableFull ∷ NoKey
    ∷ []

abbrev row : ℕ → Refusal
row n = get_or rows n SizeOutOfRange

row_of_number : (why : Refusal) → row (number_of why) ≡ why
row_of_number SizeOutOfRange = refl
row_of_number CountsDisagree = refl
row_of_number FirstTooLong = refl
row_of_number SecondTooLong = refl
row_of_number RegionFull = refl
row_of_number RingFull = refl
row_of_number EntriesPending = refl
row_of_number NothingThere = refl
row_of_number OutputTooShort = refl
row_of_number LengthTooLarge = refl
row_of_number ImageNotWhole = refl
row_of_number PayloadNotWhole = refl
row_of_number Unreadable = refl
row_of_number RingUnreadable = refl
row_of_number PlaceNotValid = refl
row_of_number NoFreeze = refl
row_of_number CardUnformed = refl
row_of_number CardFull = refl
row_of_number KeyTooLong = refl
row_of_number TableFull = refl
row_of_number NoKey = refl

pub number_determines : (a b : Refusal) → number_of a ≡ number_of b → a ≡ b
number_determines a b same = sym (row_of_number a) ∙ ap row same ∙ row_of_number b
