-- The calls on a card, their answers in words: document 02, paper 3. Assumes nothing.
use Rattle.std.specs.Prelude.{List, ℕ}
use Rattle.refusals.specs.Outcome.{Outcome, gives, refuses, refuses_block, into}
use Rattle.card.specs.Calls.{find_call, store_call, release_call}
use Rattle.record_words.specs.AnswerWords.{answers_with, number_words, test_words}

-- how many blocks were found
abbrev pub card_find : (n : ℕ) (card out answer : List ℕ) → Outcome (List ℕ)
card_find n card out answer = answers_with (into number_words (find_call n card out)) answer

-- 1 where a store was made
abbrev pub card_store : (n : ℕ) (card image : List ℕ) (made : ℕ) (answer : List ℕ) → Outcome (List ℕ)
card_store n card image made answer = answers_with (into test_words (store_call n card image made)) answer

-- how many blocks were dropped
abbrev pub card_release : (n : ℕ) (card answer : List ℕ) → Outcome (List ℕ)
card_release n card answer = answers_with (into number_words (release_call n card)) answer

-- the block that is named, for the sum that is its code
abbrev pub block_named : {A : Type 0} → Outcome A → ℕ
block_named (gives a) = 0
block_named (refuses number) = 0
block_named (refuses_block number block) = block
