-- `journal_c::journal_range` meets its contract: the totals are those of the list that was read. Assumes nothing.
use mathlib.Core.Path.{sym, ap, ◌∙◌}
use mathlib.Core.List.{◌++◌}
use Rattle.record_words.specs.Calls.{code_of}
use Rattle.record_words.specs.AnswerWords.{output_after}
use Rattle.journal_c.proofs.Totals.{unread, read}
use Rattle.journal_c.proofs.journal_range.Goals as goal

pub returns-in-Some : goal.returns-in-Some
returns-in-Some c =
    let a = c.args in
    let is = read (a.front.now ++ a.back.now) a.totals.now c.in-Some.range
    (sym c.in-Some.is ∙ c.range_in.ensures) in record {
      value = c.reply.ensures.value ∙ ap code_of (sym is);
      totals_new = c.reply.ensures.answer_new ∙ ap (output_after a.totals.now) (sym is);
    }

pub returns-in-None : goal.returns-in-None
returns-in-None c =
    let a = c.args in
    let is = unread (a.front.now ++ a.back.now) a.totals.now (sym c.in-None.is ∙ c.range_in.ensures) in record {
      value = c.into.ensures ∙ ap code_of (sym is);
      totals_new = ap (output_after a.totals.now) (sym is);
    }
