-- `all_zero` meets its contract: nothing is zeros, and else the first and those behind it tell. Assumes nothing.
use mathlib.Core.Path.{◌≡◌, refl, sym, ap, ◌∙◌}
use mathlib.Core.Bool.{true, false}
use mathlib.Core.List.{List, [], ◌∷◌}
use Prim.Native.Nat.{ℕ}
use native.Mathlib.Omega.{arith}
use borrow.Author.Tests.{eq-eqb, ne_eqb}
use lib.Dec.{eqb}
use lib.ListN.{length, take}
use Rattle.std.specs.Cmp.Lexicographic.{pointwise}
use Rattle.words.specs.Lists.{all_zero}
use Rattle.words.proofs.Zeros.{shifted}
use Rattle.words.proofs.all_zero.Goals as goal

nothing : (s : List ℕ) → length s ≡ 0 → all_zero s ≡ true
unfolding all_zero
nothing [] e = refl
nothing (x ∷ s) e = absurd (omega arith)

first_zero : (x : ℕ) (s : List ℕ) → x ≡ 0 → all_zero (x ∷ s) ≡ all_zero s
unfolding all_zero
first_zero x s e = rw (eq-eqb x 0 e)

first_other : (x : ℕ) (s : List ℕ) → (x ≡ 0 → ⊥) → all_zero (x ∷ s) ≡ false
unfolding all_zero
first_other x s n = rw (ne_eqb x 0 n)

pub returns-in_default : goal.returns-in_default
returns-in_default c = sym (nothing c.args.s.now c.in_default.ensures.cases)

pub returns-then-first-eq0 : goal.returns-then-first-eq0
returns-then-first-eq0 c =
    let whole = c.in-Some.ensures.cases.0 in
    let rest = c.in-Some.rest.now in
    c.eq.ensures ∙ ap (λ (l : List ℕ). pointwise eqb rest (take (length rest) l)) whole
    ∙ shifted c.in-Some.first.now rest c.if-first-eq0.true
    ∙ sym (first_zero c.in-Some.first.now rest c.if-first-eq0.true)
    ∙ ap all_zero (sym whole)

pub returns-else-first-eq0 : goal.returns-else-first-eq0
returns-else-first-eq0 c =
    ne_eqb c.in-Some.first.now 0 c.if-first-eq0.false
    ∙ sym (first_other c.in-Some.first.now c.in-Some.rest.now c.if-first-eq0.false)
    ∙ ap all_zero (sym c.in-Some.ensures.cases.0)
