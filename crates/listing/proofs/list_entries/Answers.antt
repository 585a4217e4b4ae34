-- `list_entries` meets its contract: the walk tells whether the bytes are exactly the entries, and the lines have
-- room. Assumes nothing.
use mathlib.Core.Path.{refl}
use native.Mathlib.Omega.{arith}
use borrow.Author.Rules.{rules}
use Rattle.listing.specs.Text.{entries_word}
use Rattle.listing.proofs.Answers.{Whole, walk_less, walk_whole, listed_none, listed_short}
use Rattle.listing.proofs.Answers.{listed_text, number_most, lines_long, reads_whole}
use Rattle.listing.proofs.list_entries.Goals as goal

pub returns-then-ne : goal.returns-then-ne
returns-then-ne c =
    listed_none c.args.wires.now c.args.count c.args.text.now (walk_less c.args.wires.now c.args.count (search rules))

pub returns-then-text-end : goal.returns-then-text-end
returns-then-text-end c =
    listed_short (walk_whole c.args.wires.now c.args.count (search rules)) c.args.text.now (omega arith)

pub entries-requires : goal.entries-requires
entries-requires c =
    let w : Whole c.args.wires.now c.args.count = walk_whole c.args.wires.now c.args.count (search rules) in
    record {
      reads = reads_whole w;
      room = omega (arith, number_most entries_word c.args.count refl (omega arith), lines_long w);
    }

pub returns : goal.returns
returns c =
    listed_text (walk_whole c.args.wires.now c.args.count (search rules)) c.args.text.now (omega arith)
    (omega arith) (search rules)
    c.number.ensures.put c.entries.ensures.put
