-- `entry_at` meets its contract: what does not lie there contradicts `Readable`, and `placed` judges the two words
-- that were read. Assumes nothing.
use Prim.Native.Nat.{ℕ, ◌+◌, ◌<◌}
use mathlib.Core.List.{List}
use mathlib.Core.Path.{sym, ap, ◌∙◌}
use native.Mathlib.Omega.{arith}
use Rattle.journal_entry.specs.Places.{word_at}
use Rattle.journal_entry.proofs.Options.{fit_no}
use Rattle.journal_entry.proofs.Readable.{read_no, first_at_lem}
use Rattle.journal_entry.proofs.entry_at.Goals as goal
use Rattle.journal_entry.proofs.entry_at.Goals.{Start}
use Rattle.journal_entry.proofs.entry_at.Given.{Over}

abbrev read : (g : Over) → Start g → List ℕ
read g c = g.S.ByteSequence.bytes c.args.s.now

pub returns-then-len-end : goal.returns-then-len-end
returns-then-len-end g c =
    sym (read_no (read g (goal.at.returns-then-len-end g c).Start) c.args.at c.args.end
    (λ h. omega (arith, h.inside, c.len.ensures)))

pub returns-then-not-fits : goal.returns-then-not-fits
returns-then-not-fits g c =
    let s = read g (goal.at.returns-then-not-fits g c).Start in
    let first = first_at_lem s c.args.at _ c.word_at-word.ensures _ c.first_len-first.ensures in
    let past : c.args.end < c.args.at + 8 + c.first_len-first.result =
    fit_no _ _ _ c.fits.ensures c.if-not-fits.true in
    sym (read_no s c.args.at c.args.end (λ h. omega (arith, h.before, first, past)))

pub returns : goal.returns
returns g c =
    let s = read g (goal.at.returns g c).Start in
    c.placed.ensures s (omega (arith, c.len.ensures)) c.word_at-word.ensures
    (c.word_at-after.ensures ∙ ap (λ (n : ℕ). word_at s (c.args.at + 4 + n)) c.first_len-first.ensures)
