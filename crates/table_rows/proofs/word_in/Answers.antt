-- `word_in` meets its contract: four bytes from a place on, one by one. Assumes nothing.
use mathlib.Core.Path.{sym, ap, ◌∙◌}
use Rattle.words.specs.Words.{unpack}
use Rattle.words.proofs.Slices.{four}
use Rattle.journal_entry.specs.Places.{word_at}
use Rattle.table_rows.proofs.word_in.Goals as goal

pub returns : goal.returns
unfolding word_at
returns c = c.word_of.ensures ∙ sym (ap unpack (four c.args.i c.args.s.now c.requires))
