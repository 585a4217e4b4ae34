-- The number of each refusal: document 01, the table "When a call says no"; from 17 on document 02, the papers'
-- errors. Assumes nothing.
use Rattle.std.specs.Prelude.{ℕ}
use Rattle.refusals.specs.declared.Refusal.{Refusal}
use Rattle.refusals.specs.declared.Refusal.TheVariants.{SizeOutOfRange, CountsDisagree, FirstTooLong}
use Rattle.refusals.specs.declared.Refusal.TheVariants.{SecondTooLong, RegionFull, RingFull, EntriesPending}
use Rattle.refusals.specs.declared.Refusal.TheVariants.{NothingThere, OutputTooShort, LengthTooLarge}
use Rattle.refusals.specs.declared.Refusal.TheVariants.{ImageNotWhole, PayloadNotWhole, Unreadable}
use Rattle.refusals.specs.declared.Refusal.TheVariants.{RingUnreadable, PlaceNotValid, NoFreeze, CardUnformed}
use Rattle.refusals.specs.declared.Refusal.TheVariants.{CardFull, KeyTooLong, TableFull, NoKey}

abbrev pub number_of : Refusal → ℕ
number_of SizeOutOfRange = 1
number_of CountsDisagree = 2
number_of FirstTooLong = 3
number_of SecondTooLong = 4
number_of RegionFull = 5
number_of RingFull = 6
number_of EntriesPending = 7
number_of NothingThere = 8
number_of OutputTooShort = 9
number_of LengthTooLarge = 10
number_of ImageNotWhole = 11
number_of PayloadNotWhole = 13
number_of Unreadable = 14
number_of RingUnreadable = 15
number_of PlaceNotValid = 16
number_of NoFreeze = 17
number_of CardUnformed = 18
number_of CardFull = 19
number_of KeyTooLong = 20
number_of TableFull = 21
number_of NoKey = 22
