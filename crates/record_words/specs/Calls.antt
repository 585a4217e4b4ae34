-- A call on a record that lies in lent words: what it comes to, its number, and what it leaves in the words and in
-- a lent buffer. Assumes nothing.
use Rattle.std.specs.Prelude.{Option, None, Some, List, ◌++◌, ℕ, ◌+◌, ◌*◌, leb, length, drop}
use Rattle.refusals.specs.Outcome.{Outcome, gives, refuses, refuses_block, require◌else◌then◌}
use Rattle.refusals.specs.Outcome.{given◌else◌then◌}
use Rattle.journalist.specs.declared.Journalist.{Journalist}
use Rattle.record_words.specs.Words.{word_count, words_of, decode_of}

-- what a C or Rust caller gets of a call: 0, or the number of document 01's table; 12 comes with 256 times the block
abbrev pub code_of : {A : Type 0} → Outcome A → ℕ
code_of (gives result) = 0
code_of (refuses number) = number
code_of (refuses_block number block) = number + 256 * block

-- damaged words are a record whose counts do not hang together: 2
unfoldable pub on_record : {A : Type 0} → (words : List ℕ) → (Journalist → Outcome A) → Outcome A
on_record words call =
    given decode_of words else 2 then
    call

-- the words after a call: the new record's, the words behind unchanged; a refusal changes nothing
abbrev pub words_after : (words : List ℕ) → Outcome Journalist → List ℕ
words_after words (gives j) = words_of j ++ drop word_count words
words_after words (refuses number) = words
words_after words (refuses_block number block) = words

-- a record to words that need not hold one: 9 where they are too few
abbrev pub fitted_to : (words : List ℕ) → Outcome Journalist → Outcome Journalist
fitted_to words (gives j) =
    require leb word_count (length words) else 9 then
    gives j
fitted_to words (refuses number) = refuses number
fitted_to words (refuses_block number block) = refuses_block number block

-- a lent buffer after a call, by what the call leaves there
abbrev pub lent_decoded : Option Journalist → (lent : List ℕ) → (Journalist → List ℕ) → List ℕ
lent_decoded None lent left = lent
lent_decoded (Some j) lent left = left j

unfoldable pub lent_after : (words lent : List ℕ) → (Journalist → List ℕ) → List ℕ
lent_after words lent left = lent_decoded (decode_of words) lent left
