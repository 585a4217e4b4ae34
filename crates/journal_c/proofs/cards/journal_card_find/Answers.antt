-- `journal_c::cards::journal_card_find` meets its contract: without a word of answer the test alone, else the card's.
-- Assumes nothing.
use mathlib.Core.Path.{◌≡◌, refl, sym, ap, ◌∙◌}
use native.Mathlib.Omega.{arith}
use Rattle.refusals.specs.Answers.{image_outcome_of}
use Rattle.card.specs.Calls.{find_call}
use Rattle.card.proofs.CallLaws.{find_below}
use Rattle.record_words.specs.AnswerWords.{number_words}
use Rattle.journal_c.proofs.CardCalls.{named_small, short_kept, long_changed, found_keeps}
use Rattle.journal_c.proofs.cards.journal_card_find.Goals as goal
use Rattle.journal_c.proofs.cards.journal_card_find.Goals.{In-Err, then-answer-lt1, else-answer-lt1}

told_is : (c : In-Err) → let a = c.args in
    image_outcome_of c.if-answer-lt1.told ≡ find_call a.n a.card.now a.out.now
told_is c =
    elim c.if-answer-lt1.branch [
      | then-answer-lt1 w ↦ ap image_outcome_of w.told-is ∙ w.find_test-told.ensures c.args.out.now refl
      | else-answer-lt1 w ↦ ap image_outcome_of w.told-is ∙ w.find-told.ensures.result_value
    ]

pub number-requires : goal.number-requires
number-requires c =
    let a = c.args in
    named_small _ 1024 (omega arith) λ number block e.
    find_below a.n a.card.now a.out.now number block
    (sym (told_is c) ∙ ap image_outcome_of c.in-Err.is ∙ e)

pub returns-in-Err-clause-out_new : goal.returns-in-Err-clause-out_new
returns-in-Err-clause-out_new c =
    let a = c.args in
    let call = find_call a.n a.card.now a.out.now in
    elim c.if-answer-lt1.branch [
      | then-answer-lt1 w ↦ w.out-is
          ∙ short_kept number_words (λ n. refl) call a.answer.now _ a.out.now w.if-answer-lt1.true
      | else-answer-lt1 w ↦ w.out-is ∙ w.find-told.ensures.out_new
          ∙ long_changed number_words (λ n. refl) call a.answer.now _ a.out.now w.if-answer-lt1.false
          (found_keeps a.n a.card.now a.out.now)
    ]
