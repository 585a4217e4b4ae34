-- EACH STEP DOES WHAT THE MAP DOES, OF EVERY KEY: what a key has in the new rows is what the map's step gives it.
-- Of any rows, ascending or not. Assumes nothing.
use mathlib.Core.Path.{◌≡◌, refl, sym, ap, ◌∙◌}
use mathlib.Core.Bool.{Bool, true, false, cond, not, ◌&&◌}
use mathlib.Core.List.{List, [], ◌∷◌, ◌++◌}
use Rattle.std.specs.Prelude.{Option, None, Some}
use Prim.Native.Nat.{ℕ}
use lib.ListN.{length, drop}
use Rattle.journal_entry.specs.Entry.{JournalEntry, journal_insert, journal_clone}
use Rattle.key_map.specs.Keys.{before, begins, same}
use Rattle.key_map.specs.Map.{step_map}
use Rattle.table_rows.specs.declared.Reach.{Reach}
use Rattle.table_rows.specs.declared.Reach.TheVariants.{Only, Under}
use Rattle.table_rows.specs.Rows.{Row, row_of, lookup, rows_where, reach_of, target, meets, ahead, met, behind}
use Rattle.table_rows.specs.Rows.{moved_all, made, stepped}
use Rattle.key_map.proofs.Keys.{clash, same_told, same_under, begins_under, begins_told}
use Rattle.table_rows.proofs.Reaches.{met_not_before, unmet_other}

-- the first that is there
abbrev or_else : Option (List ℕ) → Option (List ℕ) → Option (List ℕ)
or_else None o = o
or_else (Some v) o = Some v

lookup_append : (xs ys : List Row) (k : List ℕ) → lookup (xs ++ ys) k ≡ or_else (lookup xs k) (lookup ys k)
lookup_append [] ys k = refl
lookup_append (r ∷ xs) ys k = go (same r.key k) (lookup_append xs ys k)
  where
    go : (t : Bool) → lookup (xs ++ ys) k ≡ or_else (lookup xs k) (lookup ys k)
        → cond t (Some r.value) (lookup (xs ++ ys) k) ≡ or_else (cond t (Some r.value) (lookup xs k)) (lookup ys k)
    go true further = refl
    go false further = further

-- of the rows whose key passes a test, a key has what it has of all where it passes, and else nothing
pub lookup_where : (test : List ℕ → Bool) (rows : List Row) (k : List ℕ)
    → lookup (rows_where test rows) k ≡ cond (test k) (lookup rows k) None
lookup_where test [] k = go (test k)
  where
    go : (t : Bool) → ◌≡◌ {A = Option (List ℕ)} None (cond t None None)
    go true = refl
    go false = refl
lookup_where test (r ∷ rows) k = go (test r.key) (same r.key k) refl refl (lookup_where test rows k)
  where
    go : (t s : Bool) → test r.key ≡ t → same r.key k ≡ s
        → lookup (rows_where test rows) k ≡ cond (test k) (lookup rows k) None
        → lookup (cond t (r ∷ rows_where test rows) (rows_where test rows)) k
        ≡ cond (test k) (cond s (Some r.value) (lookup rows k)) None
    go true true e f further =
        let u : test k ≡ true = ap test (sym (same_told r.key k f)) ∙ e in
        rw (f, u)
    go true false e f further = rw f further
    go false true e f further =
        let u : test k ≡ false = ap test (sym (same_told r.key k f)) ∙ e in
        rw u at further ∙ rw u
    go false false e f further = further

last : (o : Option (List ℕ)) → or_else o None ≡ o
last None = refl
last (Some v) = refl

twice : (o : Option (List ℕ)) → or_else o o ≡ o
twice None = refl
twice (Some v) = refl

-- Three runs: what the middle run has of the keys that the step is about, and of every other key what it had.
module _ (reach : Reach) (at : List ℕ) (rows middle : List Row) (k : List ℕ) where
  three : (m b a : Bool) → meets reach at k ≡ m → before k at ≡ b → before at k ≡ a
      → (m ≡ false → lookup middle k ≡ None)
      → or_else (cond b (lookup rows k) None) (or_else (lookup middle k) (cond (a && not m) (lookup rows k) None))
      ≡ cond m (lookup middle k) (lookup rows k)
  three true true a e f g apart = clash (sym f ∙ met_not_before reach at k e)
  three true false true e f g apart = last (lookup middle k)
  three true false false e f g apart = last (lookup middle k)
  three false true true e f g apart = rw (apart refl) (twice (lookup rows k))
  three false true false e f g apart = rw (apart refl) (last (lookup rows k))
  three false false true e f g apart = rw (apart refl)
  three false false false e f g apart = clash (sym (unmet_other reach at k e f) ∙ g)

  pub lookup_runs : (meets reach at k ≡ false → lookup middle k ≡ None)
      → lookup (ahead at rows ++ (middle ++ behind reach at rows)) k
      ≡ cond (meets reach at k) (lookup middle k) (lookup rows k)
  lookup_runs apart =
      lookup_append (ahead at rows) (middle ++ behind reach at rows) k
      ∙ rw (
        lookup_append middle (behind reach at rows) k,
        lookup_where (λ j. before j at) rows k,
        lookup_where (λ j. before at j && not (meets reach at j)) rows k,
      )
      (three (meets reach at k) (before k at) (before at k) refl refl refl apart)

-- a moved key is k exactly where the key is `from` followed by k's remaining bytes
moved_same : (from to j k : List ℕ) → begins from j ≡ true → begins to k ≡ true
    → same (to ++ drop (length from) j) k ≡ same j (from ++ drop (length to) k)
moved_same from to j k s t =
    let rest : List ℕ = drop (length from) j in
    let left : List ℕ = drop (length to) k in
    ap (same (to ++ rest)) (sym (begins_told to k t))
    ∙ same_under to rest left
    ∙ sym (same_under from rest left)
    ∙ ap (λ (l : List ℕ). same l (from ++ left)) (begins_told from j s)

-- what the moved rows of `from` have: of a key that begins with `to`, what `from` followed by its remaining bytes had
pub lookup_moved : (from to : List ℕ) (rows : List Row) (k : List ℕ)
    → lookup (moved_all from to (met Under from rows)) k
    ≡ cond (begins to k) (lookup rows (from ++ drop (length to) k)) None
lookup_moved from to [] k = go (begins to k)
  where
    go : (t : Bool) → ◌≡◌ {A = Option (List ℕ)} None (cond t None None)
    go true = refl
    go false = refl
lookup_moved from to (r ∷ rows) k = go (begins from r.key) (begins to k) refl refl (lookup_moved from to rows k)
  where
    other : (t : Bool) → begins from r.key ≡ false → same r.key (from ++ drop (length to) k) ≡ t → t ≡ false
    other true e f = clash (sym (begins_under from (drop (length to) k))
        ∙ ap (begins from) (sym (same_told r.key (from ++ drop (length to) k) f)) ∙ e)
    other false e f = refl

    unlike : (t : Bool) → begins to k ≡ false → same (to ++ drop (length from) r.key) k ≡ t → t ≡ false
    unlike true e f =
        let is = same_told (to ++ drop (length from) r.key) k f in
        clash (sym (begins_under to (drop (length from) r.key)) ∙ ap (begins to) is ∙ e)
    unlike false e f = refl

    go : (f t : Bool) → begins from r.key ≡ f → begins to k ≡ t
        → lookup (moved_all from to (met Under from rows)) k
        ≡ cond (begins to k) (lookup rows (from ++ drop (length to) k)) None
        → lookup (moved_all from to (cond f (r ∷ met Under from rows) (met Under from rows))) k
        ≡ cond t (cond (same r.key (from ++ drop (length to) k)) (Some r.value)
        (lookup rows (from ++ drop (length to) k))) None
    go true true e f further = rw (moved_same from to r.key k e f, further, f)
    go true false e f further = rw (unlike _ f refl, further, f)
    go false true e f further = further ∙ rw (f, other _ e refl)
    go false false e f further = further ∙ rw f

-- a clone's rows, and an insert's row, have nothing of the keys that the step is not about
pub lookup_made : (rows : List Row) (e : JournalEntry) (k : List ℕ) → meets (reach_of e) (target e) k ≡ false
    → lookup (made rows e) k ≡ None
lookup_made rows (journal_insert key value) k t = rw t
lookup_made rows (journal_clone from to) k t = lookup_moved from to rows k ∙ rw t

-- EACH STEP DOES WHAT THE MAP DOES
pub step_does_map : (rows : List Row) (e : JournalEntry) (k : List ℕ)
    → lookup (stepped rows e) k ≡ step_map (lookup rows) e k
unfolding stepped
step_does_map rows (journal_insert key value) k =
    lookup_runs Only key rows (row_of key value ∷ []) k (lookup_made rows (journal_insert key value) k)
    ∙ go (same key k)
  where
    go : (t : Bool) → cond t (cond t (Some value) None) (lookup rows k) ≡ cond t (Some value) (lookup rows k)
    go true = refl
    go false = refl
step_does_map rows (journal_clone from to) k =
    lookup_runs Under to rows (moved_all from to (met Under from rows)) k (lookup_made rows (journal_clone from to) k)
    ∙ rw (lookup_moved from to rows k) (go (begins to k))
  where
    go : (t : Bool) → cond t (cond t (lookup rows (from ++ drop (length to) k)) None) (lookup rows k)
        ≡ cond t (lookup rows (from ++ drop (length to) k)) (lookup rows k)
    go true = refl
    go false = refl

-- each other key keeps its value
pub other_keys : (rows : List Row) (e : JournalEntry) (k : List ℕ) → meets (reach_of e) (target e) k ≡ false
    → lookup (stepped rows e) k ≡ lookup rows k
other_keys rows (journal_insert key value) k t = step_does_map rows (journal_insert key value) k ∙ rw t
other_keys rows (journal_clone from to) k t = step_does_map rows (journal_clone from to) k ∙ rw t

-- A clone of a prefix onto itself changes no key.
pub clone_self : (rows : List Row) (p k : List ℕ) → lookup (stepped rows (journal_clone p p)) k ≡ lookup rows k
clone_self rows p k = step_does_map rows (journal_clone p p) k ∙ go (begins p k) refl
  where
    go : (t : Bool) → begins p k ≡ t → cond t (lookup rows (p ++ drop (length p) k)) (lookup rows k) ≡ lookup rows k
    go true e = rw (begins_told p k e)
    go false e = refl
