-- `word_whole` of a slice meets its contract: the word at a place is said by the four bytes from there on. Assumes
-- nothing.
use mathlib.Core.Path.{◌≡◌, sym, ◌∙◌}
use Rattle.journal_entry.proofs.Joins.{word_of_chunk}
use Rattle.journal_entry.proofs.sequence.RefSliceU8ByteSequence.word_whole.Goals as goal

pub returns-clause-value : goal.returns-clause-value
returns-clause-value c word is =
    let four = c.in_ok-word.ensures.cases in
    let w : c.from_le_bytes.result ≡ word = cc in
    sym w ∙ word_of_chunk c.args.self.now.now _ _ c.args.i _ c.in_ok-get.ensures.lookup.0.2 four.enough four.same
    c.from_le_bytes.ensures
