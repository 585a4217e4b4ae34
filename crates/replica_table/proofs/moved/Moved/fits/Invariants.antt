-- `fits` meets its contract: what is left fits as the whole does. Assumes nothing.
use mathlib.Core.Path.{◌≡◌}
use Prim.Native.Nat.{◌-◌}
use Rattle.replica_table.specs.Moves.{moves_fit}
use Rattle.replica_table.proofs.moved.Moved.fits.Given as goal

abbrev pub invariant-loop : goal.invariant-loop
invariant-loop l =
    moves_fit l.table l.here (l.self.rows - l.counter) l.self.from_len l.room
    ≡ moves_fit l.table l.self.at l.self.rows l.self.from_len l.room
