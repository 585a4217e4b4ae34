-- std's comparisons of byte slices are those of keys. Assumes nothing.
use mathlib.Core.Path.{◌≡◌, refl, ap, ◌∙◌}
use mathlib.Core.Bool.{Bool, true, false, cond, ◌&&◌, ◌||◌}
use mathlib.Core.List.{List, [], ◌∷◌}
use Prim.Native.Nat.{ℕ}
use Rattle.std.specs.Prelude.{eqb, ltb}
use Rattle.std.specs.declared.cmp.Ordering.{Ordering}
use Rattle.std.specs.declared.cmp.Ordering.TheVariants.{Less, Equal, Greater}
use Rattle.std.specs.Ordering.{is_lt, ordering_then, nat_cmp}
use Rattle.std.specs.Cmp.Lexicographic.{pointwise, slice_cmp}
use Rattle.std.specs.List.{starts_with as starts_with_by}
use Rattle.key_map.specs.Keys.{before, begins, same}

order_told : (a b : List ℕ) → is_lt (slice_cmp nat_cmp a b) ≡ before a b
order_told [] [] = refl
order_told [] (y ∷ b) = refl
order_told (x ∷ a) [] = refl
order_told (x ∷ a) (y ∷ b) = go (ltb x y) (eqb x y) (order_told a b)
  where
    go : (less equal : Bool) → is_lt (slice_cmp nat_cmp a b) ≡ before a b
        → is_lt (ordering_then (cond less Less (cond equal Equal Greater)) (slice_cmp nat_cmp a b))
        ≡ (less || (equal && before a b))
    go true equal further = refl
    go false true further = further
    go false false further = refl

pub is_before : (a b : List ℕ) (o : Ordering) → o ≡ slice_cmp nat_cmp a b → is_lt o ≡ before a b
is_before a b o e = ap is_lt e ∙ order_told a b

pub begins_with : (key prefix : List ℕ) → starts_with_by eqb key prefix ≡ begins prefix key
begins_with key [] = refl
begins_with [] (x ∷ prefix) = refl
begins_with (y ∷ key) (x ∷ prefix) = ap (λ t. eqb x y && t) (begins_with key prefix)

pub is_same : (a b : List ℕ) → pointwise eqb a b ≡ same a b
is_same [] [] = refl
is_same [] (y ∷ b) = refl
is_same (x ∷ a) [] = refl
is_same (x ∷ a) (y ∷ b) = ap (λ t. eqb x y && t) (is_same a b)
