-- `find_in` meets its contract: each part of the pass tells the same of the whole. Assumes nothing.
use mathlib.Core.Path.{◌≡◌, sym, ap, ◌∙◌}
use mathlib.Core.List.{List}
use Rattle.std.specs.Prelude.{Option, None, Some}
use Prim.Native.Nat.{ℕ}
use Rattle.table_rows.specs.declared.Span.{Span}
use Rattle.table_rows.specs.Table.{table_rows}
use Rattle.table_rows.specs.Places.{found_of, used_of, span_at}
use Rattle.table_rows.specs.Rest.{taken}
use Rattle.table_rows.proofs.Rests.{all_rows, all_tell}
use Rattle.table_rows.proofs.Spans.{span_left, span_found}
use Rattle.table_rows.proofs.find_in.Goals as goal

-- what the whole is, as told from the start
found_told : (t : List ℕ) (count : ℕ) (o : Option ℕ) → o ≡ taken t (all_rows t count) → (span : Span)
    → found_of o span ≡ found_of (used_of 0 (table_rows count t)) span
found_told t count o e span = ap (λ (u : Option ℕ). found_of u span) (e ∙ all_tell t count)

pub returns-in_err-first : goal.returns-in_err-first
returns-in_err-first c =
    let x = c.args in
    c.from_residual.ensures
    ∙ found_told x.table.now x.count None c.in_err-first.ensures (span_at x.reach x.key.now x.table.now x.count)

pub returns-in_err-last : goal.returns-in_err-last
returns-in_err-last c =
    let x = c.args in
    c.from_residual-in_err-last.ensures
    ∙ found_told x.table.now x.count None (c.in_err-last.ensures ∙ c.in_ok-first.ensures.tells)
    (span_at x.reach x.key.now x.table.now x.count)

pub returns-in_err-used : goal.returns-in_err-used
returns-in_err-used c =
    let x = c.args in
    c.from_residual-in_err-used.ensures
    ∙ found_told x.table.now x.count None
    (sym c.in_err-used.was ∙ c.used.ensures ∙ c.in_ok-last.ensures.tells ∙ c.in_ok-first.ensures.tells)
    (span_at x.reach x.key.now x.table.now x.count)

pub between-requires : goal.between-requires
between-requires c =
    let x = c.args in
    span_left x.count x.table.now x.reach x.key.now c.in_ok-first.first.rows c.in_ok-last.last.rows
    c.in_ok-first.ensures.rows_are c.in_ok-last.ensures.rows_are

pub returns : goal.returns
returns c =
    let x = c.args in
    let span = c.between.ensures ∙ span_found x.count x.table.now x.reach x.key.now c.in_ok-first.first.rows
    c.in_ok-last.last.rows c.in_ok-first.ensures.rows_are c.in_ok-last.ensures.rows_are in
    ap (found_of (Some c.in_ok-used.used)) span
    ∙ found_told x.table.now x.count (Some c.in_ok-used.used)
    (sym c.in_ok-used.was ∙ c.used.ensures ∙ c.in_ok-last.ensures.tells ∙ c.in_ok-first.ensures.tells)
    (span_at x.reach x.key.now x.table.now x.count)
