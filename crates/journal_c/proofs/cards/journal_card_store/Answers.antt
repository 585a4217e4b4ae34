-- `journal_c::cards::journal_card_store` meets its contract: without a word of answer the test alone, else the card's.
-- Assumes nothing.
use mathlib.Core.Path.{◌≡◌, refl, sym, ap, ◌∙◌}
use Prim.Native.Nat.{◌/◌}
use lib.ListN.{length}
use native.Mathlib.Omega.{arith}
use Rattle.refusals.specs.Answers.{image_outcome_of}
use Rattle.card.specs.Calls.{store_call}
use Rattle.card.proofs.StoreLaws.{store_below}
use Rattle.record_words.specs.AnswerWords.{test_words}
use Rattle.journal_c.proofs.CardCalls.{named_small, named_any, short_kept, long_changed, stored_keeps}
use Rattle.journal_c.proofs.cards.journal_card_store.Goals as goal
use Rattle.journal_c.proofs.cards.journal_card_store.Goals.{In-Err, then-answer-lt1, else-answer-lt1}

told_is : (c : In-Err) → let a = c.args in
    image_outcome_of c.if-answer-lt1.told ≡ store_call a.n a.card.now a.image.now a.made
told_is c =
    elim c.if-answer-lt1.branch [
      | then-answer-lt1 w ↦ ap image_outcome_of w.told-is ∙ w.store_test-told.ensures
      | else-answer-lt1 w ↦ ap image_outcome_of w.told-is ∙ w.store-told.ensures.result_value
    ]

pub number-requires : goal.number-requires
number-requires c =
    let a = c.args in
    named_small _ (length a.image.now / 4096) (omega (arith, c.well_formed)) λ number block e.
    store_below a.n a.card.now a.image.now a.made number block
    (sym (told_is c) ∙ ap image_outcome_of c.in-Err.is ∙ named_any c.in-Err.why number block e)

pub returns-in-Err-clause-card_new : goal.returns-in-Err-clause-card_new
returns-in-Err-clause-card_new c =
    let a = c.args in
    let call = store_call a.n a.card.now a.image.now a.made in
    elim c.if-answer-lt1.branch [
      | then-answer-lt1 w ↦ w.card-is
          ∙ short_kept test_words (λ n. refl) call a.answer.now _ a.card.now w.if-answer-lt1.true
      | else-answer-lt1 w ↦ w.card-is ∙ w.store-told.ensures.card_new
          ∙ long_changed test_words (λ n. refl) call a.answer.now _ a.card.now w.if-answer-lt1.false
          (stored_keeps a.n a.card.now a.image.now a.made)
    ]
