-- A record and its words: what was stored decodes as it was, and words that decode are the record's own. Assumes
-- nothing.
use mathlib.Core.Path.{◌≡◌, refl, sym, ap, ◌∙◌}
use mathlib.Core.Bool.{Bool, true, false, cond}
use mathlib.Core.List.{List, [], ◌∷◌, ◌++◌}
use Prim.Native.Nat.{ℕ, zero, suc, ◌+◌, ◌≤◌}
use native.Mathlib.Omega.{arith}
use lib.Dec.{eqb}
use lib.ListN.{length, take, drop, get_or}
use lib.Seq.{drop-cons}
use borrow.Author.Tests.{le-leb, leb-true, eqb-true}
use Rattle.refusals.proofs.Tests.{both, impossible}
use Rattle.journalist.specs.Calls.{present}
use Rattle.journalist.specs.Recovery.{side_blocks}
use Rattle.journalist.specs.declared.Journalist.{Journalist}
use Rattle.std.specs.Prelude.{Option, None, Some}
use Rattle.std.proofs.lemmas.Option.{same_Some}
use Rattle.record_words.specs.Words.{layout, word_count, flag_of, words_of, side_reads, side_of, words_read, record_at}
use Rattle.record_words.specs.Words.{decode_of}

side_reads_again : (s : Option ℕ) → side_reads (flag_of (present s)) (side_blocks s) ≡ true
unfolding side_reads
side_reads_again None = refl
side_reads_again (Some k) = refl

side_again : (s : Option ℕ) → side_of (flag_of (present s)) (side_blocks s) ≡ s
unfolding side_of
side_again None = refl
side_again (Some k) = refl

-- the round trip, whatever words lie behind
pub decoded_again : (j : Journalist) (t : List ℕ) → decode_of (words_of j ++ t) ≡ Some j
unfolding decode_of words_read record_at
decoded_again j t =
    rw (
      le-leb word_count (length (words_of j ++ t)) (omega arith),
      side_reads_again j.front,
      side_reads_again j.back,
      side_again j.front,
      side_again j.back,
    )

-- what a side's two words must be
side_words : (flag blocks : ℕ) → side_reads flag blocks ≡ true
    → (flag_of (present (side_of flag blocks)) ≡ flag) × (side_blocks (side_of flag blocks) ≡ blocks)
unfolding side_reads side_of
side_words flag blocks h = go (eqb flag 0) refl h
  where
    go : (t : Bool) → eqb flag 0 ≡ t → cond t (eqb blocks 0) (eqb flag 1) ≡ true
        → (flag_of (present (cond t None (Some blocks))) ≡ flag)
        × (side_blocks (cond t None (Some blocks)) ≡ blocks)
    go true e k = (sym (eqb-true flag 0 e), sym (eqb-true blocks 0 k))
    go false e k = (sym (eqb-true flag 1 k), refl)

-- n words from place i on, one by one
abbrev words_from : (n i : ℕ) (words : List ℕ) → List ℕ
words_from zero i words = []
words_from (suc n) i words = get_or words i 0 ∷ words_from n (suc i) words

one_by_one : (n i : ℕ) (words : List ℕ) → i + n ≤ length words → take n (drop i words) ≡ words_from n i words
one_by_one zero i words h = refl
one_by_one (suc n) i words h = ap (take (suc n)) (drop-cons words i 0 (omega arith))
    ∙ ap (◌∷◌ (get_or words i 0)) (one_by_one n (suc i) words (omega arith))

-- words that read are those of the record that they say
own_words : (words : List ℕ) → words_read words ≡ true
    → (word_count ≤ length words) × (take word_count words ≡ words_of (record_at words))
unfolding words_read record_at
own_words words h =
    let (h₃, back) = both _ _ h in
    let (h₂, front) = both _ _ h₃ in
    let (long, version) = both _ _ h₂ in
    let (f, fk) = side_words (get_or words 13 0) (get_or words 14 0) front in
    let (b, bk) = side_words (get_or words 15 0) (get_or words 16 0) back in
    let enough = leb-true word_count (length words) long in
    (enough, one_by_one word_count 0 words enough ∙ rw (f, fk, b, bk, eqb-true (get_or words 0 0) layout version))

-- a record has one layout only: the first words of a list that decodes are the record's
pub decoded_words : (words : List ℕ) (j : Journalist) → decode_of words ≡ Some j
    → (word_count ≤ length words) × (take word_count words ≡ words_of j)
unfolding decode_of
decoded_words words j h = go (words_read words) refl h
  where
    go : (t : Bool) → words_read words ≡ t → cond t (Some (record_at words)) None ≡ Some j
        → (word_count ≤ length words) × (take word_count words ≡ words_of j)
    go true e d =
        let is : record_at words ≡ j = same_Some _ _ d in
        let own = own_words words e in
        (own.0, own.1 ∙ ap words_of is)
    go false e d = impossible cc

pub one_layout : (words words' : List ℕ) (j : Journalist) → decode_of words ≡ Some j → decode_of words' ≡ Some j
    → take word_count words ≡ take word_count words'
one_layout words words' j h h' = (decoded_words words j h).1 ∙ sym (decoded_words words' j h').1
