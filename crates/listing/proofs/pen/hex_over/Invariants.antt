-- `hex_over` meets its contract: each turn writes the next byte's digits behind those written. Assumes nothing.
use Prim.Native.Nat.{◌*◌}
use lib.ListN.{take}
use Rattle.listing.specs.Put.{Put}
use Rattle.listing.specs.Text.{hex_bytes}
use Rattle.listing.proofs.pen.hex_over.Given as goal

abbrev pub invariant-loop-i : goal.invariant-loop-i
invariant-loop-i l = Put l.initial.out 0 (hex_bytes (take l.i l.bytes)) l.out (2 * l.i)
