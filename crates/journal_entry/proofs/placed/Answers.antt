-- `placed` meets its contract: each refusal contradicts a fact of `Readable`, and past all of them each of its
-- facts holds. Assumes nothing.
use Prim.Native.Nat.{ℕ, ◌+◌, ◌-◌, ◌≤◌, ◌<◌}
use mathlib.Core.List.{List}
use mathlib.Core.Path.{◌≡◌, refl, sym, ap, ◌∙◌}
use native.Mathlib.Omega.{arith}
use lib.Dec.{leb}
use Rattle.journal_entry.specs.Entry.{clone_mark, second_limit}
use Rattle.journal_entry.specs.Places.{word_at, kind_of, is_clone_kind}
use mathlib.Core.Bool.{Bool, true, false}
use Rattle.std.specs.Prelude.{Some}
use Rattle.journal_entry.proofs.Options.{fit_yes, fit_no}
use Rattle.journal_entry.proofs.Readable.{read_yes, read_no, first_at_lem, second_at_lem, place_at_lem}
use Rattle.journal_entry.proofs.placed.Goals as goal
use Rattle.journal_entry.proofs.placed.Goals.{Else-not-fits, After-second_limit}

-- the most second bytes of an entry of its kind
limit_got : (c : After-second_limit) (s : List ℕ) (at : ℕ) → c.args.word ≡ word_at s at
    → c.second_limit.result ≡ second_limit (leb 4096 (word_at s at))
limit_got c s at is = c.second_limit.ensures.value
    ∙ ap (λ k. second_limit (is_clone_kind k)) c.of-kind.ensures
    ∙ kind_clone (leb 4096 c.args.word)
    ∙ ap (λ (w : ℕ). second_limit (leb 4096 w)) is
  where
    kind_clone : (t : Bool) → second_limit (is_clone_kind (kind_of t)) ≡ second_limit t
    kind_clone true = refl
    kind_clone false = refl

-- both pieces lie before the end
fit_got : (c : Else-not-fits) → let x = c.args in
    x.at + 8 + (c.first_len-first.result + x.after) ≤ x.end
fit_got c = fit_yes _ _ _ c.fits.ensures c.if-not-fits.false

pub returns-then-first-gt-FIRST_LIMIT : goal.returns-then-first-gt-FIRST_LIMIT
returns-then-first-gt-FIRST_LIMIT c s inside is₁ is₂ =
    let x = c.args in
    let f = first_at_lem s x.at x.word is₁ _ c.first_len-first.ensures in
    sym (read_no s x.at x.end (λ h. omega (arith, f)))

pub returns-then-second_limit-second : goal.returns-then-second_limit-second
returns-then-second_limit-second c s inside is₁ is₂ =
    let x = c.args in
    let g = second_at_lem s x.at x.word is₁ (x.word - clone_mark (leb 4096 x.word)) refl x.after is₂ in
    sym (read_no s x.at x.end (λ h. omega
    (arith, g, limit_got (goal.at.returns-then-second_limit-second c).After-second_limit s x.at is₁)))

pub returns-then-not-fits : goal.returns-then-not-fits
returns-then-not-fits c s inside is₁ is₂ =
    let x = c.args in
    let f = first_at_lem s x.at x.word is₁ _ c.first_len-first.ensures in
    let g = second_at_lem s x.at x.word is₁ (x.word - clone_mark (leb 4096 x.word)) refl x.after is₂ in
    let past : x.end < x.at + 8 + (c.first_len-first.result + x.after) =
    fit_no _ _ _ c.fits.ensures c.if-not-fits.true in
    sym (read_no s x.at x.end (λ h. omega (arith, f, g, past)))

pub returns : goal.returns
returns c s inside is₁ is₂ =
    let x = c.args in
    let f = first_at_lem s x.at x.word is₁ _ c.first_len-first.ensures in
    let is₃ : x.after ≡ word_at s (x.at + 4 + c.first_len-first.result) =
    is₂ ∙ ap (λ (n : ℕ). word_at s (x.at + 4 + n)) (sym c.first_len-first.ensures) in
    let g = second_at_lem s x.at x.word is₁ _ c.first_len-first.ensures x.after is₃ in
    let placed = place_at_lem s x.at x.word is₁ _ c.first_len-first.ensures _ c.of-kind.ensures x.after is₃ in
    ap Some placed ∙ sym (read_yes s x.at x.end
    (omega (
      arith,
      f,
      g,
      limit_got (goal.at.returns c).After-second_limit s x.at is₁,
      fit_got (goal.at.returns c).Else-not-fits,
    )))
