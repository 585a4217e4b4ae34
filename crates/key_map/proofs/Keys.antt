-- The order of keys byte by byte, and keys under a prefix. Assumes nothing.
use mathlib.Core.Path.{◌≡◌, refl, sym, ap₂, ◌∙◌}
use mathlib.Core.Bool.{Bool, true, false}
use mathlib.Core.List.{List, [], ◌∷◌, ◌++◌}
use Prim.Native.Nat.{ℕ, ◌<◌, ◌≤◌}
use native.Mathlib.Omega.{arith}
use borrow.Author.Tests.{lt-ltb, le-ltb, eq-eqb, ne_eqb, ltb-true, ltb-false, eqb-true, eqb-false}
use lib.Dec.{eqb, ltb}
use lib.ListN.{length, drop}
use Rattle.refusals.proofs.Tests.{both, impossible}
use Rattle.key_map.specs.Keys.{before, begins, same}

-- which of two bytes is the smaller, or neither
pub by_byte : {C : Type 0} (x y : ℕ) → (x < y → C) → (x ≡ y → C) → (y < x → C) → C
by_byte {C} x y less equal more = go (ltb x y) (eqb x y) refl refl
  where
    go : (s t : Bool) → ltb x y ≡ s → eqb x y ≡ t → C
    go true t e f = less (ltb-true x y e)
    go false true e f = equal (eqb-true x y f)
    go false false e f =
        let n : x ≡ y → ⊥ = eqb-false x y f in
        let h : y ≤ x = ltb-false x y e in
        more (omega arith)

module _ (x y : ℕ) (a b : List ℕ) where
  pub before_less : x < y → before (x ∷ a) (y ∷ b) ≡ true
  before_less h = rw (lt-ltb x y h)

  pub before_equal : x ≡ y → before (x ∷ a) (y ∷ b) ≡ before a b
  before_equal e = let h : y ≤ x = omega arith in rw (le-ltb x y h, eq-eqb x y e)

  pub before_more : y < x → before (x ∷ a) (y ∷ b) ≡ false
  before_more h =
      let n : x ≡ y → ⊥ = λ e. omega arith in
      let k : y ≤ x = omega arith in
      rw (le-ltb x y k, ne_eqb x y n)

  pub before_told : {C : Type 0} → before (x ∷ a) (y ∷ b) ≡ true → (x < y → C) → (x ≡ y → before a b ≡ true → C) → C
  before_told t less equal =
      by_byte x y less (λ e. equal e (sym (before_equal e) ∙ t))
      (λ h. impossible (let z : ◌≡◌ {A = Bool} true false = sym t ∙ before_more h in cc))

pub clash : {C : Type 0} → ◌≡◌ {A = Bool} true false → C
clash e = impossible cc

pub same_refl : (a : List ℕ) → same a a ≡ true
same_refl [] = refl
same_refl (x ∷ a) = rw (eq-eqb x x refl) (same_refl a)

pub same_told : (a b : List ℕ) → same a b ≡ true → a ≡ b
same_told [] [] t = refl
same_told [] (y ∷ b) t = clash (sym t)
same_told (x ∷ a) [] t = clash (sym t)
same_told (x ∷ a) (y ∷ b) t = let (h, k) = both (eqb x y) (same a b) t in ap₂ ◌∷◌ (eqb-true x y h) (same_told a b k)

pub same_sym : (a b : List ℕ) → same a b ≡ same b a
same_sym [] [] = refl
same_sym [] (y ∷ b) = refl
same_sym (x ∷ a) [] = refl
same_sym (x ∷ a) (y ∷ b) =
    by_byte x y
    (λ h. let n : x ≡ y → ⊥ = λ e. omega arith in let m : y ≡ x → ⊥ = λ e. omega arith in
    rw (ne_eqb x y n, ne_eqb y x m))
    (λ e. rw (eq-eqb x y e, eq-eqb y x (sym e)) (same_sym a b))
    (λ h. let n : x ≡ y → ⊥ = λ e. omega arith in let m : y ≡ x → ⊥ = λ e. omega arith in
    rw (ne_eqb x y n, ne_eqb y x m))

pub same_under : (p s t : List ℕ) → same (p ++ s) (p ++ t) ≡ same s t
same_under [] s t = refl
same_under (x ∷ p) s t = rw (eq-eqb x x refl) (same_under p s t)

pub before_under : (p s t : List ℕ) → before (p ++ s) (p ++ t) ≡ before s t
before_under [] s t = refl
before_under (x ∷ p) s t = before_equal x x (p ++ s) (p ++ t) refl ∙ before_under p s t

pub begins_behind : (p s t : List ℕ) → begins (p ++ s) (p ++ t) ≡ begins s t
begins_behind [] s t = refl
begins_behind (x ∷ p) s t = rw (eq-eqb x x refl) (begins_behind p s t)

pub begins_under : (p s : List ℕ) → begins p (p ++ s) ≡ true
begins_under [] s = refl
begins_under (x ∷ p) s = rw (eq-eqb x x refl) (begins_under p s)

-- a key that begins with p is p and its remaining bytes
pub begins_told : (p k : List ℕ) → begins p k ≡ true → p ++ drop (length p) k ≡ k
begins_told [] k t = refl
begins_told (x ∷ p) [] t = clash (sym t)
begins_told (x ∷ p) (y ∷ k) t = let (h, j) = both (eqb x y) (begins p k) t in
    ap₂ ◌∷◌ (eqb-true x y h) (begins_told p k j)

pub before_never : (a : List ℕ) → before a a ≡ false
before_never [] = refl
before_never (x ∷ a) = before_equal x x a a refl ∙ before_never a

pub before_trans : (a b c : List ℕ) → before a b ≡ true → before b c ≡ true → before a c ≡ true
before_trans a b [] s t = clash (sym t)
before_trans a [] (z ∷ c) s t = clash (sym s)
before_trans [] (y ∷ b) (z ∷ c) s t = refl
before_trans (x ∷ a) (y ∷ b) (z ∷ c) s t =
    before_told x y a b s
    (λ h. before_told y z b c t
    (λ k. before_less x z a c (omega arith))
    (λ e k. before_less x z a c (omega arith)))
    (λ e h. before_told y z b c t
    (λ k. before_less x z a c (omega arith))
    (λ f k. before_equal x z a c (omega arith) ∙ before_trans a b c h k))

-- one of the three
pub before_other : (a b : List ℕ) → before a b ≡ false → same a b ≡ false → before b a ≡ true
before_other [] [] s t = clash t
before_other (x ∷ a) [] s t = refl
before_other [] (y ∷ b) s t = clash s
before_other (x ∷ a) (y ∷ b) s t =
    by_byte x y
    (λ h. clash (sym (before_less x y a b h) ∙ s))
    (λ e. before_equal y x b a (sym e) ∙ before_other a b (sym (before_equal x y a b e) ∙ s) (rw (eq-eqb x y e) at t))
    (λ h. before_less y x b a h)

-- no two of them
pub before_not_back : (a b : List ℕ) → before a b ≡ true → before b a ≡ false
before_not_back a b t = go (before b a) refl
  where
    go : (u : Bool) → before b a ≡ u → u ≡ false
    go true e = clash (sym (before_trans a b a t e) ∙ before_never a)
    go false e = refl

-- Keys under a prefix stand behind what is before the prefix, and before what is behind it and not under it.

pub before_longer : (k p s : List ℕ) → before k p ≡ true → before k (p ++ s) ≡ true
before_longer k [] s t = clash (sym t)
before_longer [] (y ∷ p) s t = refl
before_longer (x ∷ k) (y ∷ p) s t =
    before_told x y k p t
    (λ h. before_less x y k (p ++ s) h)
    (λ e h. before_equal x y k (p ++ s) e ∙ before_longer k p s h)

pub under_before : (p s k : List ℕ) → before p k ≡ true → begins p k ≡ false → before (p ++ s) k ≡ true
under_before p s [] t u = clash (sym t)
under_before [] s (y ∷ k) t u = clash u
under_before (x ∷ p) s (y ∷ k) t u =
    before_told x y p k t
    (λ h. before_less x y (p ++ s) k h)
    (λ e h. before_equal x y (p ++ s) k e ∙ under_before p s k h (rw (eq-eqb x y e) at u))

pub under_not_before : (p s : List ℕ) → before (p ++ s) p ≡ false
under_not_before [] s = refl
under_not_before (x ∷ p) s = before_equal x x (p ++ s) p refl ∙ under_not_before p s

pub same_begins : (p k : List ℕ) → same p k ≡ true → begins p k ≡ true
same_begins p k t = rw (← (same_told p k t)) (begins_self p)
  where
    begins_self : (p : List ℕ) → begins p p ≡ true
    begins_self [] = refl
    begins_self (x ∷ p) = rw (eq-eqb x x refl) (begins_self p)
