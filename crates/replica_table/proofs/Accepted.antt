-- What an accepted step found, and that it leaves a table of the form again, with what the map's step gives to
-- every key. Assumes nothing.
use mathlib.Core.Path.{◌≡◌, refl, sym, ap, ◌∙◌, subst}
use mathlib.Core.Bool.{Bool, true, false, cond, not, ◌&&◌}
use mathlib.Core.List.{List, [], ◌∷◌, ◌++◌}
use Rattle.std.specs.Prelude.{Option, None, Some}
use Prim.Native.Nat.{ℕ, ◌≤◌}
use borrow.Author.Tests.{leb-true, eqb-true}
use lib.Dec.{leb, eqb}
use lib.ListN.{length, replicate}
use Rattle.refusals.specs.Outcome.{Outcome, gives, given◌else◌then◌}
use Rattle.refusals.proofs.Tests.{both, impossible}
use Rattle.refusals.proofs.Outcomes.{gives_same, require_told}
use Rattle.words.proofs.All.{all_append}
use Rattle.journal_entry.specs.Entry.{JournalEntry, journal_insert, journal_clone, is_clone, first, second}
use Rattle.journal_entry.specs.Entry.{Within, AllWithin, first_limit, second_limit}
use Rattle.key_map.specs.Keys.{before, begins}
use Rattle.key_map.specs.Map.{step_map}
use Rattle.table_rows.specs.declared.Reach.TheVariants.{Under}
use Rattle.table_rows.specs.Rows.{Row, inserts, weight, lookup, ascending, rows_where, reach_of, target, meets, ahead}
use Rattle.table_rows.specs.Rows.{met, behind, moved_all, made, stepped, keys_fit}
use Rattle.table_rows.specs.Table.{table_rows, table_of}
use Rattle.replica_table.specs.Calls.{step_rows, step_table, step_work}
use Rattle.table_rows.proofs.Lookups.{step_does_map}
use Rattle.table_rows.proofs.Ascending.{step_ascends}
use Rattle.table_rows.proofs.Tables.{inserts_append, IsTable, table_told, table_reads, length_table_of}

pub given_told : {A B C : Type 0} (o : Option A) (n : ℕ) (f : A → Outcome B) (b : B)
    → (given o else n then f) ≡ gives b → ((a : A) → o ≡ Some a → f a ≡ gives b → C) → C
given_told (Some a) n f b e k = k a refl e
given_told None n f b e k = impossible cc

-- the rows that were there, and the tests that passed
pub record Accepted (count : ℕ) (table work : List ℕ) (e : JournalEntry) (rows new : List Row) : Type 0 where
  pub table_is : table_rows count table ≡ Some rows
  pub work_is : length work ≡ length table
  pub limits : Within e
  pub keys_short : keys_fit (made rows e) ≡ true
  pub room : weight (stepped rows e) ≤ length table
  pub new_is : stepped rows e ≡ new

pub accepted_told : {C : Type 0} (count : ℕ) (table work : List ℕ) (e : JournalEntry) (new : List Row)
    → step_rows count table work e ≡ gives new
    → ((rows : List Row) → Accepted count table work e rows new → C) → C
unfolding step_rows
accepted_told count table work e new is k =
    given_told (table_rows count table) 2 _ new is λ rows f is₁.
    require_told (eqb (length work) (length table)) 2 _ new is₁ λ h₁ is₂.
    require_told (leb (length (first e)) first_limit) 3 _ new is₂ λ h₂ is₃.
    require_told (leb (length (second e)) (second_limit (is_clone e))) 4 _ new is₃ λ h₃ is₄.
    require_told (keys_fit (made rows e)) 20 _ new is₄ λ h₄ is₅.
    require_told (leb (weight (stepped rows e)) (length table)) 21 _ new is₅ λ h₅ is₆.
    k rows
    (record {
      table_is = f;
      work_is = eqb-true _ _ h₁;
      limits = record { first_fits = leb-true _ _ h₂; second_fits = leb-true _ _ h₃ };
      keys_short = h₄;
      room = leb-true _ _ h₅;
      new_is = gives_same is₆;
    })

within_where : (test : List ℕ → Bool) (rows : List Row) → AllWithin (inserts rows)
    → AllWithin (inserts (rows_where test rows))
within_where test [] w = tt
within_where test (r ∷ rows) w = go (test r.key) (within_where test rows w.1)
  where
    go : (t : Bool) → AllWithin (inserts (rows_where test rows))
        → AllWithin (inserts (cond t (r ∷ rows_where test rows) (rows_where test rows)))
    go true v = (w.0, v)
    go false v = v

within_moved : (from to : List ℕ) (rows : List Row) → AllWithin (inserts rows)
    → keys_fit (moved_all from to rows) ≡ true → AllWithin (inserts (moved_all from to rows))
within_moved from to [] w t = tt
within_moved from to (r ∷ rows) w t =
    let (h, further) = both _ (keys_fit (moved_all from to rows)) t in
    (record { first_fits = leb-true _ _ h; second_fits = w.0.second_fits }, within_moved from to rows w.1 further)

within_made : (rows : List Row) (e : JournalEntry) → AllWithin (inserts rows) → Within e
    → keys_fit (made rows e) ≡ true → AllWithin (inserts (made rows e))
within_made rows (journal_insert key value) w v t = (v, tt)
within_made rows (journal_clone from to) w v t =
    within_moved from to (met Under from rows) (within_where (begins from) rows w) t

pub within_stepped : (rows : List Row) (e : JournalEntry) → AllWithin (inserts rows) → Within e
    → keys_fit (made rows e) ≡ true → AllWithin (inserts (stepped rows e))
unfolding stepped
within_stepped rows e w v t =
    rw (
      inserts_append (ahead (target e) rows) (made rows e ++ behind (reach_of e) (target e) rows),
      inserts_append (made rows e) (behind (reach_of e) (target e) rows),
    )
    (all_append Within (inserts (ahead (target e) rows)) _ (within_where (λ k. before k (target e)) rows w)
    (all_append Within (inserts (made rows e)) _ (within_made rows e w v t)
    (within_where (λ k. before (target e) k && not (meets (reach_of e) (target e) k)) rows w)))

-- THE TABLE AFTER AN ACCEPTED STEP is as long as before, is of the form, and has what the map's step gives to every
-- key. (Its rows take their weight and no more: `table_told`.)
pub record Follows (count : ℕ) (table work : List ℕ) (e : JournalEntry) (rows new : List Row) : Type 0 where
  pub was : table_rows count table ≡ Some rows
  pub reads : table_rows (length new) (step_table count table work e) ≡ Some new
  pub long : length (step_table count table work e) ≡ length table
  pub map_is : (k : List ℕ) → lookup new k ≡ step_map (lookup rows) e k
  pub cleared : step_work count table work e ≡ replicate (length work) 0

pub step_follows : {C : Type 0} (count : ℕ) (table work : List ℕ) (e : JournalEntry) (new : List Row)
    → step_rows count table work e ≡ gives new
    → ((rows : List Row) → Follows count table work e rows new → C) → C
unfolding step_table step_work
step_follows count table work e new is k =
    accepted_told count table work e new is λ rows a.
    let t : IsTable count table rows = table_told count table rows a.table_is in
    let up : ascending new ≡ true =
    subst (λ (l : List Row). ascending l ≡ true) a.new_is (step_ascends rows e t.ascending_is) in
    let w : AllWithin (inserts new) =
    subst (λ (l : List Row). AllWithin (inserts l)) a.new_is
    (within_stepped rows e t.within a.limits a.keys_short) in
    let room : weight new ≤ length table = subst (λ (l : List Row). weight l ≤ length table) a.new_is a.room in
    let left : step_table count table work e ≡ table_of (length table) new = rw is in
    k rows
    (record {
      was = a.table_is;
      reads = rw left (table_reads (length table) new up w);
      long = rw left (length_table_of (length table) new room);
      map_is = λ j. ap (λ (l : List Row). lookup l j) (sym a.new_is) ∙ step_does_map rows e j;
      cleared = rw is;
    })
