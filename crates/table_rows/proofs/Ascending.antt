-- Rows stay ascending: the three runs of a step stand in order, and so do the moved rows of a clone. Assumes nothing.
use mathlib.Core.Path.{◌≡◌, refl, sym, ap₂, ◌∙◌}
use mathlib.Core.Bool.{Bool, true, false, cond, not, ◌&&◌}
use mathlib.Core.List.{List, [], ◌∷◌, ◌++◌}
use Prim.Native.Nat.{ℕ}
use borrow.Author.Tests.{not-true}
use lib.ListN.{length, drop}
use Rattle.refusals.proofs.Tests.{both}
use Rattle.journal_entry.specs.Entry.{JournalEntry, journal_insert, journal_clone}
use Rattle.words.specs.Lists.{All}
use Rattle.words.proofs.All.{all_append, all_map}
use Rattle.key_map.specs.Keys.{before, begins, same}
use Rattle.table_rows.specs.declared.Reach.{Reach}
use Rattle.table_rows.specs.declared.Reach.TheVariants.{Under}
use Rattle.table_rows.specs.Rows.{Row, ascending_from, ascending, rows_where, reach_of, target, meets, ahead}
use Rattle.table_rows.specs.Rows.{met, behind, moved_all, made, stepped}
use Rattle.key_map.proofs.Keys.{same_refl, same_told, begins_under, begins_told, before_under, before_trans}
use Rattle.key_map.proofs.Keys.{before_other, before_not_back}
use Rattle.table_rows.proofs.Reaches.{met_not_before, met_behind}

-- of every row's key
abbrev pub AllKeys : (List ℕ → Type 0) → List Row → Type 0
AllKeys P rows = All (λ r. P r.key) rows

pub all_keys : {P Q : List ℕ → Type 0} (rows : List Row) → ((k : List ℕ) → P k → Q k) → AllKeys P rows → AllKeys Q rows
all_keys rows f = all_map _ _ (λ r. f r.key) rows

-- ascending, as each row's key before the key of every later row
abbrev pub Sorted : List Row → Type 0
Sorted [] = Unit {0}
Sorted (r ∷ rows) = AllKeys (λ k. before r.key k ≡ true) rows × Sorted rows

from_sorted : (prior : List ℕ) (rows : List Row) → ascending_from prior rows ≡ true
    → AllKeys (λ k. before prior k ≡ true) rows × Sorted rows
from_sorted prior [] t = (tt, tt)
from_sorted prior (r ∷ rows) t =
    let (h, further) = both (before prior r.key) (ascending_from r.key rows) t in
    let (a, s) = from_sorted r.key rows further in
    ((h, all_keys rows (λ k b. before_trans prior r.key k h b) a), (a, s))

pub sorted : (rows : List Row) → ascending rows ≡ true → Sorted rows
sorted [] t = tt
sorted (r ∷ rows) t = from_sorted r.key rows t

from_ascends : (prior : List ℕ) (rows : List Row) → AllKeys (λ k. before prior k ≡ true) rows → Sorted rows
    → ascending_from prior rows ≡ true
from_ascends prior [] a s = refl
from_ascends prior (r ∷ rows) a s = rw a.0 (from_ascends r.key rows s.0 s.1)

pub ascends : (rows : List Row) → Sorted rows → ascending rows ≡ true
ascends [] s = refl
ascends (r ∷ rows) s = from_ascends r.key rows s.0 s.1

-- the rows that pass a test
pub where_told : (test : List ℕ → Bool) (rows : List Row) → AllKeys (λ k. test k ≡ true) (rows_where test rows)
where_told test [] = tt
where_told test (r ∷ rows) = go (test r.key) refl (where_told test rows)
  where
    go : (t : Bool) → test r.key ≡ t → AllKeys (λ k. test k ≡ true) (rows_where test rows)
        → AllKeys (λ k. test k ≡ true) (cond t (r ∷ rows_where test rows) (rows_where test rows))
    go true e a = (e, a)
    go false e a = a

pub where_all : (P : List ℕ → Type 0) (test : List ℕ → Bool) (rows : List Row) → AllKeys P rows
    → AllKeys P (rows_where test rows)
where_all P test [] a = tt
where_all P test (r ∷ rows) a = go (test r.key) (where_all P test rows a.1)
  where
    go : (t : Bool) → AllKeys P (rows_where test rows)
        → AllKeys P (cond t (r ∷ rows_where test rows) (rows_where test rows))
    go true b = (a.0, b)
    go false b = b

pub where_sorted : (test : List ℕ → Bool) (rows : List Row) → Sorted rows → Sorted (rows_where test rows)
where_sorted test [] s = tt
where_sorted test (r ∷ rows) s = go (test r.key) (where_sorted test rows s.1)
  where
    go : (t : Bool) → Sorted (rows_where test rows) → Sorted (cond t (r ∷ rows_where test rows) (rows_where test rows))
    go true b = (where_all (λ k. before r.key k ≡ true) test rows s.0, b)
    go false b = b

-- one run behind the other
module _ {P Q : List ℕ → Type 0} (order : (j k : List ℕ) → P j → Q k → before j k ≡ true) where
  pub append_sorted : (xs ys : List Row) → AllKeys P xs → AllKeys Q ys → Sorted xs → Sorted ys → Sorted (xs ++ ys)
  append_sorted [] ys p q s t = t
  append_sorted (r ∷ xs) ys p q s t = (
    all_append (λ x. before r.key x.key ≡ true) xs ys s.0 (all_keys ys (λ k. order r.key k p.0) q),
    append_sorted xs ys p.1 q s.1 t,
  )

-- what is before `at` is before what is not
pub ahead_rest : (at j k : List ℕ) → before j at ≡ true → before k at ≡ false → before j k ≡ true
ahead_rest at j k h n = go (same k at) refl
  where
    go : (t : Bool) → same k at ≡ t → before j k ≡ true
    go true e = rw (same_told k at e) h
    go false e = before_trans j at k h (before_other k at n e)

pub behind_told : (reach : Reach) (at : List ℕ) (rows : List Row)
    → AllKeys (λ k. (before at k ≡ true) × (meets reach at k ≡ false)) (behind reach at rows)
behind_told reach at rows =
    all_keys (behind reach at rows)
    (λ k t. let (h, n) = both (before at k) (not (meets reach at k)) t in (h, not-true (meets reach at k) n))
    (where_told (λ k. before at k && not (meets reach at k)) rows)

-- The three runs of a step, of a middle run that is in order and about the step's keys.
pub runs_sorted : (reach : Reach) (at : List ℕ) (rows middle : List Row) → Sorted rows → Sorted middle
    → AllKeys (λ k. meets reach at k ≡ true) middle
    → Sorted (ahead at rows ++ (middle ++ behind reach at rows))
runs_sorted reach at rows middle s m about =
    let rest : Sorted (middle ++ behind reach at rows) =
    append_sorted (λ j k p q. met_behind reach at j k p q.0 q.1) middle (behind reach at rows) about
    (behind_told reach at rows) m
    (where_sorted (λ k. before at k && not (meets reach at k)) rows s) in
    append_sorted (ahead_rest at) (ahead at rows) (middle ++ behind reach at rows) (where_told (λ k. before k at) rows)
    (all_append (λ r. before r.key at ≡ false) middle (behind reach at rows)
    (all_keys middle (met_not_before reach at) about)
    (all_keys (behind reach at rows) (λ k q. before_not_back at k q.0) (behind_told reach at rows)))
    (where_sorted (λ k. before k at) rows s) rest

-- moved rows keep their order, and all begin with `to`
moved_before : (from to j k : List ℕ) → begins from j ≡ true → begins from k ≡ true → before j k ≡ true
    → before (to ++ drop (length from) j) (to ++ drop (length from) k) ≡ true
moved_before from to j k s t h =
    before_under to (drop (length from) j) (drop (length from) k)
    ∙ sym (before_under from (drop (length from) j) (drop (length from) k))
    ∙ ap₂ before (begins_told from j s) (begins_told from k t)
    ∙ h

moved_later : (from to j : List ℕ) (rows : List Row) → begins from j ≡ true → AllKeys (λ k. begins from k ≡ true) rows
    → AllKeys (λ k. before j k ≡ true) rows
    → AllKeys (λ k. before (to ++ drop (length from) j) k ≡ true) (moved_all from to rows)
moved_later from to j [] t a b = tt
moved_later from to j (r ∷ rows) t a b =
    (moved_before from to j r.key t a.0 b.0, moved_later from to j rows t a.1 b.1)

pub moved_sorted : (from to : List ℕ) (rows : List Row) → AllKeys (λ k. begins from k ≡ true) rows → Sorted rows
    → Sorted (moved_all from to rows)
moved_sorted from to [] a s = tt
moved_sorted from to (r ∷ rows) a s =
    (moved_later from to r.key rows a.0 a.1 s.0, moved_sorted from to rows a.1 s.1)

moved_under : (from to : List ℕ) (rows : List Row) → AllKeys (λ k. begins to k ≡ true) (moved_all from to rows)
moved_under from to [] = tt
moved_under from to (r ∷ rows) = (begins_under to (drop (length from) r.key), moved_under from to rows)

pub made_about : (rows : List Row) (e : JournalEntry)
    → AllKeys (λ k. meets (reach_of e) (target e) k ≡ true) (made rows e)
made_about rows (journal_insert key value) = (same_refl key, tt)
made_about rows (journal_clone from to) = moved_under from to (met Under from rows)

pub made_sorted : (rows : List Row) (e : JournalEntry) → Sorted rows → Sorted (made rows e)
made_sorted rows (journal_insert key value) s = (tt, tt)
made_sorted rows (journal_clone from to) s =
    moved_sorted from to (met Under from rows) (where_told (begins from) rows) (where_sorted (begins from) rows s)

-- ROWS STAY ASCENDING
pub step_sorted : (rows : List Row) (e : JournalEntry) → Sorted rows → Sorted (stepped rows e)
unfolding stepped
step_sorted rows e s =
    runs_sorted (reach_of e) (target e) rows (made rows e) s (made_sorted rows e s) (made_about rows e)

pub step_ascends : (rows : List Row) (e : JournalEntry) → ascending rows ≡ true → ascending (stepped rows e) ≡ true
step_ascends rows e t = ascends (stepped rows e) (step_sorted rows e (sorted rows t))
