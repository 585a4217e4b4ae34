-- Rows passed one by one while their key passes a test, as the loops of `skip_rows` and `behind_passed` go. Assumes
-- nothing.
use mathlib.Core.Path.{◌≡◌, sym, ap, ◌∙◌}
use mathlib.Core.Bool.{Bool, true, false, cond}
use mathlib.Core.List.{List}
use Rattle.std.specs.Prelude.{Option, None, Some}
use Prim.Native.Nat.{ℕ, suc, ◌-◌, ◌<◌}
use native.Mathlib.Omega.{arith}
use Rattle.journal_entry.specs.declared.EntryPlace.{EntryPlace}
use Rattle.table_rows.specs.declared.RowsFrom.{RowsFrom}
use Rattle.table_rows.specs.Places.{row_at, key_in, case_row, rows_from, skip_where}

module _ (test : List ℕ → Bool) (t : List ℕ) where
  abbrev pub skipped : RowsFrom → RowsFrom
  skipped r = skip_where test t r.at r.left

  -- what a row, or none, in front comes to
  abbrev further : (at left : ℕ) → Option EntryPlace → RowsFrom
  further at left o =
      case_row o (λ p. cond (test (key_in t p)) (skip_where test t p.next (left - 1)) (rows_from at left))
      (rows_from at left)

  one_more : (at n : ℕ) → further at (suc n) (row_at t at) ≡ skip_where test t at (suc n)
  unfolding skip_where
  one_more at n =
      let less : suc n - 1 ≡ n = omega arith in
      ap (λ (m : ℕ). case_row (row_at t at)
      (λ p. cond (test (key_in t p)) (skip_where test t p.next m) (rows_from at (suc n)))
      (rows_from at (suc n))) less

  module _ (r : RowsFrom) where
    pub skip_ends : r.left ≡ 0 → r ≡ skipped r
    unfolding skip_where
    skip_ends e = ap (rows_from r.at) e ∙ sym (ap (skip_where test t r.at) e)

    module _ (some_left : 0 < r.left) where
      by_row : (o : Option EntryPlace) → o ≡ row_at t r.at → further r.at r.left o ≡ skipped r
      by_row o e =
          let m : suc (r.left - 1) ≡ r.left = omega arith in
          ap (further r.at r.left) e ∙ (rw m at (one_more r.at (r.left - 1)))

      pub skip_unread : None ≡ row_at t r.at → r ≡ skipped r
      skip_unread e = by_row None e

      module _ (p : EntryPlace) (e : Some p ≡ row_at t r.at) where
        pub skip_stops : test (key_in t p) ≡ false → r ≡ skipped r
        skip_stops h = rw h at (by_row (Some p) e)

        pub skip_more : test (key_in t p) ≡ true → skipped (rows_from p.next (r.left - 1)) ≡ skipped r
        skip_more h = rw h at (by_row (Some p) e)
