-- Each number of a step stands exactly on its condition, in the paper's order; an insert is never refused with 20.
-- Assumes nothing.
use mathlib.Core.Path.{◌≡◌, refl, sym, ap, ◌∙◌}
use mathlib.Core.Bool.{Bool, true, false, ◌&&◌}
use mathlib.Core.List.{List, [], ◌∷◌}
use Rattle.std.specs.Prelude.{Option, None, Some}
use Prim.Native.Nat.{ℕ}
use native.Mathlib.Omega.{arith}
use lib.Dec.{leb, eqb}
use lib.ListN.{length}
use Rattle.refusals.specs.Outcome.{refuses}
use Rattle.refusals.proofs.Outcomes.{refuses_same}
use Rattle.refusals.proofs.Rows.{Row as Test, Exactly, exactly}
use Rattle.journal_entry.specs.Entry.{JournalEntry, journal_insert, is_clone, first, second, first_limit, second_limit}
use Rattle.table_rows.specs.Rows.{Row, weight, made, stepped, keys_fit}
use Rattle.table_rows.specs.Table.{table_rows}
use Rattle.replica_table.specs.Calls.{step_rows}
use Rattle.key_map.proofs.Keys.{clash}
use Rattle.replica_table.proofs.Stepping.{refuse_table}

abbrev pub step_tests : (t w : List ℕ) (e : JournalEntry) (rows : List Row) → List Test
step_tests t w e rows =
    (eqb (length w) (length t), 2)
    ∷ (leb (length (first e)) first_limit, 3)
    ∷ (leb (length (second e)) (second_limit (is_clone e)), 4)
    ∷ (keys_fit (made rows e), 20)
    ∷ (leb (weight (stepped rows e)) (length t), 21)
    ∷ []

module _ (count : ℕ) (t w : List ℕ) (e : JournalEntry) where
  -- of a table: `refuse_table` (Stepping) is the rest of 2
  pub step_exactly : (rows : List Row) → table_rows count t ≡ Some rows
      → Exactly (step_tests t w e rows) (stepped rows e) (step_rows count t w e)
  unfolding step_rows
  step_exactly rows is = exactly (step_tests t w e rows) (stepped rows e) (step_rows count t w e) refl (rw is)

pub insert_never_20 : (count : ℕ) (t w key value : List ℕ)
    → step_rows count t w (journal_insert key value) ≡ refuses 20 → ⊥
insert_never_20 count t w key value e = go (table_rows count t) refl
  where
    go : (o : Option (List Row)) → table_rows count t ≡ o → ⊥
    go None f = let z : ◌≡◌ {A = ℕ} 2 20 =
        refuses_same (sym (refuse_table count t w (journal_insert key value) f) ∙ e) in omega arith
    go (Some rows) f =
        let s = (step_exactly count t w (journal_insert key value) rows f).refused_told 20 e in
        let fits : leb (length key) first_limit ≡ true = s.1.0 in
        let long : (leb (length key) first_limit && true) ≡ false = s.1.1.1 in
        clash (sym (ap (λ (b : Bool). b && true) fits) ∙ long)
