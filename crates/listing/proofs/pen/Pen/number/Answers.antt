-- `number` meets its contract: its three parts, one behind the other, are the line. Assumes nothing.
use Rattle.listing.proofs.Lines.{puts_number_line}
use Rattle.listing.proofs.pen.Pen.number.Goals as goal

pub returns : goal.returns
returns c =
    puts_number_line c.args.word.now c.args.n c.word.ensures c.decimal.ensures c.byte.ensures c.requires
