-- `record_words::store` meets its contract: a store for each word, one behind the other.
-- Assumes nothing.
use native.Mathlib.Omega.{arith}
use lib.ListN.{length-set}
use lib.Seq.{sets-eq}
use Rattle.record_words.specs.Words.{words_of}
use Rattle.record_words.proofs.store.Goals as goal

pub returns : goal.returns
returns c =
    simp (
      c.is_some.ensures,
      c.from.ensures,
      c.unwrap_or.ensures,
      c.is_some-2.ensures,
      c.from-2.ensures,
      c.unwrap_or-2.ensures,
    )
    (sets-eq (words_of c.args.j) c.args.words.now 0 c.requires)
