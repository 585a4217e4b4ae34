-- `entries` meets its contract: each turn puts the line of the next entry. Assumes nothing.
use Prim.Native.Nat.{◌-◌}
use Rattle.listing.proofs.Lining.{Lining}
use Rattle.listing.proofs.pen.Pen.entries.Given as goal

abbrev pub invariant-loop : goal.invariant-loop
invariant-loop l = Lining l.wires l.count l.initial.self l.self l.here (l.count - l.counter)
