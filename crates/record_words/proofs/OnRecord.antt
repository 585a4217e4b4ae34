-- A call on words, by what the words decode to; and what is stored of its answer. Assumes nothing.
use mathlib.Core.Path.{◌≡◌, refl, sym, ap, ◌∙◌}
use mathlib.Core.List.{List, ◌++◌}
use Prim.Native.Nat.{ℕ, ◌≤◌, ◌<◌}
use lib.ListN.{length, drop}
use borrow.Author.Tests.{le-leb, lt-leb}
use Rattle.refusals.specs.declared.Refusal.{Refusal}
use Rattle.refusals.specs.Outcome.{Outcome, gives, refuses, refuses_block, given◌else◌then◌}
use Rattle.refusals.specs.Refusals.{number_of}
use Rattle.refusals.specs.Answers.{outcome_of}
use Rattle.refusals.proofs.Outcomes.{gives_same, refuses_same}
use Rattle.refusals.proofs.Tests.{impossible}
use Rattle.std.specs.Prelude.{Option, None, Some, Result, Ok, Err}
use Rattle.journalist.specs.declared.Journalist.{Journalist}
use Rattle.record_words.specs.Words.{word_count, words_of, decode_of}
use Rattle.record_words.specs.Calls.{code_of, on_record, words_after, fitted_to, lent_decoded, lent_after}
use Rattle.record_words.proofs.RoundTrip.{decoded_words}

-- the number and the words of an outcome
abbrev pub Settled : (words : List ℕ) → Outcome Journalist → (code : ℕ) (after : List ℕ) → Type 0
Settled words o code after = (code ≡ code_of o) × (after ≡ words_after words o)

-- and a lent buffer beside them
abbrev pub SettledWith : (words : List ℕ) → Outcome Journalist → (left : List ℕ)
    → (code : ℕ) (after buffer : List ℕ) → Type 0
SettledWith words o left code after buffer = (code ≡ code_of o) × ((after ≡ words_after words o) × (buffer ≡ left))

pub fits : (words : List ℕ) → word_count ≤ length words → (o : Outcome Journalist) → fitted_to words o ≡ o
fits words h (gives j) = simp (le-leb word_count (length words) h)
fits words h (refuses number) = refl
fits words h (refuses_block number block) = refl

-- a refusal; a record that was given to fewer words, and to enough
pub not_given : (words : List ℕ) (answer : Result Journalist Refusal) (why : Refusal) (code : ℕ) → answer ≡ Err why
    → code ≡ number_of why
    → Settled words (fitted_to words (outcome_of answer)) code words
not_given words answer why code told number = rw told (number, refl)

pub no_room : (words : List ℕ) (answer : Result Journalist Refusal) (j : Journalist) (code : ℕ) → answer ≡ Ok j
    → length words < word_count → code ≡ 9
    → Settled words (fitted_to words (outcome_of answer)) code words
no_room words answer j code told h nine = rw (told, lt-leb word_count (length words) h) (nine, refl)

pub room : (words after : List ℕ) (answer : Result Journalist Refusal) (j : Journalist) → answer ≡ Ok j
    → word_count ≤ length words
    → after ≡ words_of j ++ drop word_count words
    → Settled words (fitted_to words (outcome_of answer)) 0 after
room words after answer j told h stored = rw (told, le-leb word_count (length words) h) (refl, stored)

-- the outcome by another name
pub put_as : (words : List ℕ) (o : Outcome Journalist) (answer : Result Journalist Refusal) (code : ℕ) (after : List ℕ)
    → outcome_of answer ≡ o
    → Settled words (fitted_to words (outcome_of answer)) code after → Settled words (fitted_to words o) code after
put_as words o answer code after e put = (
  put.0 ∙ ap (λ (x : Outcome Journalist). code_of (fitted_to words x)) e,
  put.1 ∙ ap (λ (x : Outcome Journalist). words_after words (fitted_to words x)) e,
)

-- A call is refused where the words are damaged, and else goes to the record that they say. The words come as a caller
-- has them: `d` is what was decoded.

given_none : {A : Type 0} (o : Option Journalist) (call : Journalist → Outcome A) (why : Refusal)
    → (given o else 2 then gives) ≡ refuses (number_of why) → (given o else 2 then call) ≡ refuses (number_of why)
given_none None call why e = ap refuses (refuses_same e)
given_none (Some j) call why e = impossible cc

given_some : (o : Option Journalist) (j : Journalist) → (given o else 2 then gives) ≡ gives j → o ≡ Some j
given_some None j e = impossible cc
given_some (Some i) j e = ap Some (gives_same e)

given_nothing : (o : Option Journalist) (why : Refusal) → (given o else 2 then gives) ≡ refuses (number_of why)
    → o ≡ None
given_nothing None why e = refl
given_nothing (Some j) why e = impossible cc

module _ (words : List ℕ) (d : Result Journalist Refusal) (is : outcome_of d ≡ on_record words gives) where
  pub refused : {A : Type 0} (call : Journalist → Outcome A) (why : Refusal) → d ≡ Err why
      → on_record words call ≡ refuses (number_of why)
  unfolding on_record
  refused call why told = given_none (decode_of words) call why (sym is ∙ ap outcome_of told)

  pub said : (j : Journalist) → d ≡ Ok j → decode_of words ≡ Some j
  unfolding on_record
  said j told = given_some (decode_of words) j (sym is ∙ ap outcome_of told)

  unsaid : (why : Refusal) → d ≡ Err why → decode_of words ≡ None
  unfolding on_record
  unsaid why told = given_nothing (decode_of words) why (sym is ∙ ap outcome_of told)

  pub called : {A : Type 0} (call : Journalist → Outcome A) (j : Journalist) → d ≡ Ok j → on_record words call ≡ call j
  unfolding on_record
  called call j told = rw (said j told)

  -- a call that changes the record only
  pub damaged : (call : Journalist → Outcome Journalist) (why : Refusal) (code : ℕ) → d ≡ Err why
      → code ≡ number_of why
      → Settled words (on_record words call) code words
  damaged call why code told number = rw (refused call why told) (number, refl)

  pub changed : (call : Journalist → Outcome Journalist) (j : Journalist) (answer : Result Journalist Refusal)
      (code : ℕ)
      (after : List ℕ) → d ≡ Ok j
      → outcome_of answer ≡ call j → Settled words (fitted_to words (outcome_of answer)) code after
      → Settled words (on_record words call) code after
  changed call j answer code after told outcome put =
      let long = (decoded_words words j (said j told)).0 in
      let same = fits words long (outcome_of answer) ∙ outcome ∙ sym (called call j told) in
      (put.0 ∙ ap code_of same, put.1 ∙ ap (words_after words) same)

  -- the same of a call that may change a lent buffer too
  pub damaged_lent : (call : Journalist → Outcome Journalist) (lent : List ℕ) (left : Journalist → List ℕ)
      (why : Refusal) (code : ℕ) → d ≡ Err why → code ≡ number_of why
      → SettledWith words (on_record words call) (lent_after words lent left) code words lent
  unfolding lent_after on_record
  damaged_lent call lent left why code told number =
      let both = damaged call why code told number in
      (both.0, (both.1, sym (ap (λ (x : Option Journalist). lent_decoded x lent left) (unsaid why told))))

  pub changed_lent : (call : Journalist → Outcome Journalist) (lent : List ℕ) (left : Journalist → List ℕ)
      (j : Journalist) (answer : Result Journalist Refusal) (code : ℕ) (after buffer : List ℕ)
      → d ≡ Ok j → outcome_of answer ≡ call j → buffer ≡ left j
      → Settled words (fitted_to words (outcome_of answer)) code after
      → SettledWith words (on_record words call) (lent_after words lent left) code after buffer
  unfolding lent_after
  changed_lent call lent left j answer code after buffer told outcome kept put =
      let both = changed call j answer code after told outcome put in
      (both.0, (both.1, kept ∙ sym (ap (λ (x : Option Journalist). lent_decoded x lent left) (said j told))))
