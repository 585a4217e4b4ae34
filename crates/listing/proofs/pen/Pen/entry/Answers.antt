-- `entry` meets its contract: its six parts, one behind the other, are the line. Assumes nothing.
use Rattle.journal_entry.specs.Places.{is_clone_kind}
use Rattle.listing.proofs.Lines.{puts_line}
use Rattle.listing.proofs.pen.Pen.entry.Goals as goal
use Rattle.listing.proofs.pen.Pen.entry.Goals.{Start}

pub returns : goal.returns
returns c =
    puts_line (is_clone_kind c.args.kind) c.args.first.now c.args.second.now c.letter.ensures
    c.byte.ensures c.byte-2.ensures c.piece.ensures c.byte-3.ensures c.piece-2.ensures c.byte-4.ensures c.requires
