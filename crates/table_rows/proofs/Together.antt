-- Rows that a step is about stand together: ascending rows are those before, those met and those behind, one run
-- after the other. Assumes nothing.
use mathlib.Core.Path.{◌≡◌, refl, sym, ap, ◌∙◌}
use mathlib.Core.Bool.{Bool, true, false, cond, not, ◌&&◌}
use mathlib.Core.List.{List, [], ◌∷◌, ◌++◌}
use Prim.Native.Nat.{ℕ}
use Rattle.key_map.specs.Keys.{before}
use Rattle.table_rows.specs.declared.Reach.{Reach}
use Rattle.table_rows.specs.Rows.{Row, rows_where, meets, ahead, met, behind}
use Rattle.key_map.proofs.Keys.{clash, before_trans, before_not_back}
use Rattle.table_rows.proofs.Reaches.{met_not_before, unmet_other, met_behind}
use Rattle.table_rows.proofs.Ascending.{AllKeys, all_keys, Sorted}

pub none_where : (test : List ℕ → Bool) (rows : List Row) → AllKeys (λ k. test k ≡ false) rows
    → rows_where test rows ≡ []
none_where test [] a = refl
none_where test (r ∷ rows) a = rw a.0 (none_where test rows a.1)

pub all_where : (test : List ℕ → Bool) (rows : List Row) → AllKeys (λ k. test k ≡ true) rows
    → rows_where test rows ≡ rows
all_where test [] a = refl
all_where test (r ∷ rows) a = rw a.0 (ap (λ (l : List Row). r ∷ l) (all_where test rows a.1))

denied : (t : Bool) → (t ≡ true → ⊥) → t ≡ false
denied true f = absurd (f refl)
denied false f = refl

module _ (reach : Reach) (at : List ℕ) (r : Row) (rows : List Row)
    (later : AllKeys (λ k. before r.key k ≡ true) rows) where
  -- behind a row that is not before `at` none is
  pub none_ahead : before r.key at ≡ false → ahead at rows ≡ []
  none_ahead n =
      none_where (λ k. before k at) rows
      (all_keys rows (λ k h. denied (before k at) (λ t. clash (sym (before_trans r.key k at h t) ∙ n))) later)

  -- behind a row that is behind those met none is met
  pub none_met : before at r.key ≡ true → meets reach at r.key ≡ false → met reach at rows ≡ []
  none_met b n =
      none_where (meets reach at) rows
      (all_keys rows
      (λ k h. denied (meets reach at k)
      (λ t. clash (sym h ∙ before_not_back k r.key (met_behind reach at k r.key t b n)))) later)

pub together : (reach : Reach) (at : List ℕ) (rows : List Row) → Sorted rows
    → rows ≡ ahead at rows ++ (met reach at rows ++ behind reach at rows)
together reach at [] s = refl
together reach at (r ∷ rows) s =
    go (before r.key at) (meets reach at r.key) (before at r.key) refl refl refl
    (together reach at rows s.1)
  where
    go : (b m a : Bool) → before r.key at ≡ b → meets reach at r.key ≡ m → before at r.key ≡ a
        → rows ≡ ahead at rows ++ (met reach at rows ++ behind reach at rows)
        → r ∷ rows ≡ cond b (r ∷ ahead at rows) (ahead at rows)
        ++ (cond m (r ∷ met reach at rows) (met reach at rows)
        ++ cond (a && not m) (r ∷ behind reach at rows) (behind reach at rows))
    go true true a e f g further = clash (sym e ∙ met_not_before reach at r.key f)
    go true false true e f g further = clash (sym g ∙ before_not_back r.key at e)
    go true false false e f g further = ap (λ (l : List Row). r ∷ l) further
    go false true true e f g further =
        rw (none_ahead reach at r rows s.0 e)
        (ap (λ (l : List Row). r ∷ l) (rw (none_ahead reach at r rows s.0 e) at further))
    go false true false e f g further =
        rw (none_ahead reach at r rows s.0 e)
        (ap (λ (l : List Row). r ∷ l) (rw (none_ahead reach at r rows s.0 e) at further))
    go false false true e f g further =
        rw (none_ahead reach at r rows s.0 e, none_met reach at r rows s.0 g f)
        (ap (λ (l : List Row). r ∷ l) (rw
        (none_ahead reach at r rows s.0 e, none_met reach at r rows s.0 g f) at further))
    go false false false e f g further = clash (sym (unmet_other reach at r.key f e) ∙ g)
