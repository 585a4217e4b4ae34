-- What it tells that a slice was tested to be a table, and that it was not. Assumes nothing.
use mathlib.Core.Path.{◌≡◌, refl}
use mathlib.Core.List.{List}
use Rattle.std.specs.Prelude.{Option, None, Some}
use Prim.Native.Nat.{ℕ, ◌+◌}
use native.Mathlib.Omega.{arith}
use Rattle.refusals.proofs.Tests.{impossible}
use Rattle.words.proofs.Slices.{Bytes}
use Rattle.table_rows.specs.declared.Reach.{Reach}
use Rattle.table_rows.specs.declared.Found.{Found}
use Rattle.table_rows.specs.Rows.{Row, weight}
use Rattle.table_rows.specs.Table.{table_rows}
use Rattle.table_rows.specs.Places.{used_of, rows_in, found_of, found_at, span_at, FoundIn}

module _ (count : ℕ) (t : List ℕ) (reach : Reach) (key : List ℕ) where
  pub found_told : (found : Found) → Bytes t → Some found ≡ found_at reach key t count → FoundIn count t reach key found
  unfolding rows_in
  found_told found bytes e = go (table_rows count t) refl e
    where
      go : (o : Option (List Row)) → table_rows count t ≡ o
          → Some found ≡ found_of (used_of 0 o) (span_at reach key t count) → FoundIn count t reach key found
      go None f g = impossible cc
      go (Some rows) f g =
          let is : found ≡ record { used = 0 + weight rows; span = span_at reach key t count } = cc in
          rw is
          (record { bytes = bytes; is = rw f; used_is = rw f (omega arith); span_is = refl })

  pub found_none : None ≡ found_at reach key t count → table_rows count t ≡ None
  found_none e = go (table_rows count t) refl e
    where
      go : (o : Option (List Row)) → table_rows count t ≡ o
          → None ≡ found_of (used_of 0 o) (span_at reach key t count) → table_rows count t ≡ None
      go None f g = f
      go (Some rows) f g = impossible cc
