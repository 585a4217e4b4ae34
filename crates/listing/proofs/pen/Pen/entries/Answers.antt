-- `entries` meets its contract: each turn puts the line of the next entry, which reads. Assumes nothing.
use mathlib.Core.Path.{◌≡◌, sym, ◌∙◌}
use native.Mathlib.Omega.{arith}
use lib.ListN.{length}
use Rattle.std.specs.Prelude.{Some}
use Rattle.journal_entry.specs.Places.{entry_at}
use Rattle.listing.proofs.Lining.{lining_reads, lining_more, lining_ends, line_fits, pieces_in}
use Rattle.listing.proofs.pen.Pen.entries.Goals as goal
use Rattle.listing.proofs.pen.Pen.entries.Goals.{After-unwrap-place}

got : (c : After-unwrap-place)
    → entry_at c.args.wires.now c.loop.here (length c.args.wires.now) ≡ Some c.unwrap-place.result
got c = sym c.entry_at.ensures ∙ c.unwrap-place.ensures

pub unwrap-place-requires : goal.unwrap-place-requires
unwrap-place-requires c = rw c.entry_at.ensures (lining_reads c.loop.invariant (omega arith))

pub place-requires-clause-pieces_in : goal.place-requires-clause-pieces_in
place-requires-clause-pieces_in c =
    pieces_in c.args.wires.now c.loop.here (length c.args.wires.now) c.unwrap-place.result
    (got (goal.at.place-requires-clause-pieces_in c).After-unwrap-place)

pub place-requires-clause-room : goal.place-requires-clause-room
place-requires-clause-room c =
    line_fits c.loop.invariant (omega arith) c.unwrap-place.result
    (got (goal.at.place-requires-clause-room c).After-unwrap-place)

pub loop-preserved : goal.loop-preserved
loop-preserved c =
    lining_more c.loop.invariant (omega arith) c.unwrap-place.result
    (got (goal.at.loop-preserved c).After-unwrap-place) _ (omega arith) c.place.ensures

pub returns : goal.returns
returns c = lining_ends c.loop.invariant (omega arith)
