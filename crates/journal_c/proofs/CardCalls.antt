-- Calls on a card for C: the block that is named is small enough for its code, and a lent buffer changes only where
-- the word of answer finds room. Assumes nothing.
use Rattle.std.specs.Prelude.{Err}
use Rattle.refusals.proofs.Tests.{impossible}
use Rattle.refusals.specs.Answers.{image_outcome_of}
use Rattle.refusals.specs.declared.ImageRefusal.{ImageRefusal}
use Rattle.refusals.specs.declared.ImageRefusal.TheVariants.{ChecksumDiffers, Plain}
use mathlib.Core.Path.{◌≡◌, refl}
use mathlib.Core.List.{List}
use Prim.Native.Nat.{ℕ, ◌^◌, ◌≤◌, ◌<◌}
use native.Mathlib.Omega.{arith}
use borrow.Author.Tests.{le-leb, lt-leb}
use lib.ListN.{length}
use Rattle.refusals.specs.Outcome.{Outcome, gives, refuses, refuses_block, into, bytes_after}
use Rattle.journal_image.specs.Strip.{output_of}
use Rattle.card.specs.Card.{live_image}
use Rattle.card.specs.Calls.{find_call, found_output, store_call, with_store, stored, release_call, without_first}
use Rattle.card.specs.Calls.{released}
use Rattle.record_words.specs.AnswerWords.{answers_with}
use Rattle.journal_c.specs.Cards.{block_named}

-- The block that is named.

pub named_small : {A : Type 0} (o : Outcome A) (most : ℕ) → most ≤ 2 ^ 52
    → ((number block : ℕ) → o ≡ refuses_block number block → block < most) → block_named o < 2 ^ 52
named_small (gives a) most few below = omega arith
named_small (refuses number) most few below = omega arith
named_small (refuses_block number block) most few below = omega (arith, below number block refl)

pub named_is : {A : Type 0} (o : Outcome A) (number block : ℕ) → o ≡ refuses_block number block
    → block_named o < 2 ^ 52 → block < 2 ^ 52
named_is o number block e h = rw e at h

-- What a call leaves in a lent buffer whose answer is one word.

pub short_kept : {A : Type 0} (make : A → List ℕ) (one : (a : A) → length (make a) ≡ 1) (o : Outcome A)
    (answer changed lent : List ℕ) → length answer < 1
    → lent ≡ bytes_after (answers_with (into make o) answer) changed lent
short_kept make one (gives a) answer changed lent h =
    rw (lt-leb (length (make a)) (length answer) (omega (arith, one a)))
short_kept make one (refuses number) answer changed lent h = refl
short_kept make one (refuses_block number block) answer changed lent h = refl

-- a refusal changes nothing
abbrev Keeps : {A : Type 0} → Outcome A → (changed lent : List ℕ) → Type 0
Keeps (gives a) changed lent = Unit {0}
Keeps (refuses number) changed lent = changed ≡ lent
Keeps (refuses_block number block) changed lent = changed ≡ lent

pub long_changed : {A : Type 0} (make : A → List ℕ) (one : (a : A) → length (make a) ≡ 1) (o : Outcome A)
    (answer changed lent : List ℕ) → 1 ≤ length answer → Keeps o changed lent
    → changed ≡ bytes_after (answers_with (into make o) answer) changed lent
long_changed make one (gives a) answer changed lent h k =
    rw (le-leb (length (make a)) (length answer) (omega (arith, one a)))
long_changed make one (refuses number) answer changed lent h k = k
long_changed make one (refuses_block number block) answer changed lent h k = k

bytes_keep : {A : Type 0} (o : Outcome A) (changed lent : List ℕ) → Keeps o (bytes_after o changed lent) lent
bytes_keep (gives a) changed lent = tt
bytes_keep (refuses number) changed lent = refl
bytes_keep (refuses_block number block) changed lent = refl

output_keeps : (o : Outcome ℕ) (image out : List ℕ) → Keeps o (output_of o image out) out
output_keeps (gives blocks) image out = tt
output_keeps (refuses number) image out = refl
output_keeps (refuses_block number block) image out = refl

pub found_keeps : (n : ℕ) (card out : List ℕ) → Keeps (find_call n card out) (found_output n card out) out
unfolding found_output
found_keeps n card out = output_keeps (find_call n card out) (live_image card) out

pub stored_keeps : (n : ℕ) (card image : List ℕ) (made : ℕ)
    → Keeps (store_call n card image made) (stored n card image made) card
unfolding stored
stored_keeps n card image made = bytes_keep (store_call n card image made) (with_store n card image made) card

pub released_keeps : (n : ℕ) (card : List ℕ) → Keeps (release_call n card) (released n card) card
unfolding released
released_keeps n card = bytes_keep (release_call n card) (without_first n card) card

-- a refusal is one whatever the result would have been
pub named_any : {A B : Type 0} (why : ImageRefusal) (number block : ℕ)
    → image_outcome_of {A = A} (Err why) ≡ refuses_block number block
    → image_outcome_of {A = B} (Err why) ≡ refuses_block number block
named_any (ChecksumDiffers i) number block e = let n : 12 ≡ number = cc in let b : i ≡ block = cc in rw (n, b)
named_any (Plain why) number block e = impossible cc
