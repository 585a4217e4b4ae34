-- ONE FORM FOR ONE CONTENT: ascending rows that give every key the same are the same rows. Assumes nothing.
use mathlib.Core.Path.{◌≡◌, refl, sym, ap, ap₂, ◌∙◌, subst}
use mathlib.Core.Bool.{Bool, true, false, cond}
use mathlib.Core.List.{List, [], ◌∷◌}
use Rattle.std.specs.Prelude.{None, Some}
use Prim.Native.Nat.{ℕ}
use Rattle.refusals.proofs.Tests.{impossible}
use Rattle.key_map.specs.Keys.{before, same}
use Rattle.table_rows.specs.Rows.{Row, lookup}
use Rattle.key_map.proofs.Keys.{clash, same_refl, same_told, before_never, before_trans, before_other}
use Rattle.table_rows.proofs.Ascending.{AllKeys, all_keys, Sorted}

apart : (j k : List ℕ) → before j k ≡ true → same k j ≡ false
apart j k h = go (same k j) refl
  where
    go : (t : Bool) → same k j ≡ t → t ≡ false
    go true e = clash (sym h ∙ ap (before j) (same_told k j e) ∙ before_never j)
    go false e = refl

-- a key before all rows is absent
pub lookup_absent : (k : List ℕ) (rows : List Row) → AllKeys (λ j. before k j ≡ true) rows → lookup rows k ≡ None
lookup_absent k [] a = refl
lookup_absent k (r ∷ rows) a = rw (apart k r.key a.0) (lookup_absent k rows a.1)

never : {C : Type 0} (v : List ℕ) → Some v ≡ None → C
never v e = impossible cc

value_same : (v w : List ℕ) → Some v ≡ Some w → v ≡ w
value_same v w e = cc

own : (x : Row) (xs : List Row) → lookup (x ∷ xs) x.key ≡ Some x.value
own x xs = rw (same_refl x.key)

module _ (x y : Row) (xs ys : List Row) (t : Sorted (y ∷ ys))
    (agree : (k : List ℕ) → lookup (x ∷ xs) k ≡ lookup (y ∷ ys) k) where
  not_first : before x.key y.key ≡ true → ⊥
  not_first h =
      let gone : lookup (y ∷ ys) x.key ≡ None =
      lookup_absent x.key (y ∷ ys) (h, all_keys ys (λ k b. before_trans x.key y.key k h b) t.0) in
      never x.value (sym (own x xs) ∙ agree x.key ∙ gone)

-- the first rows have one key
first_same : (x y : Row) (xs ys : List Row) → Sorted (x ∷ xs) → Sorted (y ∷ ys)
    → ((k : List ℕ) → lookup (x ∷ xs) k ≡ lookup (y ∷ ys) k) → x.key ≡ y.key
first_same x y xs ys s t agree = go (before x.key y.key) (same x.key y.key) refl refl
  where
    go : (b m : Bool) → before x.key y.key ≡ b → same x.key y.key ≡ m → x.key ≡ y.key
    go true m e f = absurd (not_first x y xs ys t agree e)
    go false true e f = same_told x.key y.key f
    go false false e f = absurd (not_first y x ys xs s (λ k. sym (agree k)) (before_other x.key y.key e f))

-- behind one first row the rest agrees too
rest_agrees : (x : Row) (xs ys : List Row) → AllKeys (λ k. before x.key k ≡ true) xs
    → AllKeys (λ k. before x.key k ≡ true) ys
    → ((k : List ℕ) → lookup (x ∷ xs) k ≡ lookup (x ∷ ys) k) → (k : List ℕ) → lookup xs k ≡ lookup ys k
rest_agrees x xs ys a b agree k = go (same x.key k) refl (agree k)
  where
    go : (t : Bool) → same x.key k ≡ t
        → cond t (Some x.value) (lookup xs k) ≡ cond t (Some x.value) (lookup ys k) → lookup xs k ≡ lookup ys k
    go true e h = let is = same_told x.key k e in
        rw (← is) (lookup_absent x.key xs a ∙ sym (lookup_absent x.key ys b))
    go false e h = h

row_same : (x y : Row) → x.key ≡ y.key → x.value ≡ y.value → x ≡ y
row_same x y p q = λ i. record { key = p i; value = q i }

pub canonical : (xs ys : List Row) → Sorted xs → Sorted ys → ((k : List ℕ) → lookup xs k ≡ lookup ys k) → xs ≡ ys
canonical [] [] s t agree = refl
canonical [] (y ∷ ys) s t agree = never y.value (sym (agree y.key ∙ own y ys))
canonical (x ∷ xs) [] s t agree = never x.value (sym (own x xs) ∙ agree x.key)
canonical (x ∷ xs) (y ∷ ys) s t agree =
    let p : x.key ≡ y.key = first_same x y xs ys s t agree in
    let q : x.value ≡ y.value =
    value_same x.value y.value (sym (own x xs) ∙ agree x.key ∙ ap (lookup (y ∷ ys)) p ∙ own y ys) in
    let e : x ≡ y = row_same x y p q in
    let b : AllKeys (λ k. before x.key k ≡ true) ys =
    subst (λ (z : Row). AllKeys (λ k. before z.key k ≡ true) ys) (sym e) t.0 in
    let agrees : (k : List ℕ) → lookup (x ∷ xs) k ≡ lookup (x ∷ ys) k =
    λ k. agree k ∙ ap (λ (z : Row). lookup (z ∷ ys) k) (sym e) in
    ap₂ ◌∷◌ e (canonical xs ys s.1 t.1 (rest_agrees x xs ys s.0 b agrees))
