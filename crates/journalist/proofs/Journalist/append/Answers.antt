-- `append` meets its contract: each return is a law on the answer and the ring, and the sums stay small by what the
-- tests tell of the counts. Assumes nothing.
use mathlib.Core.Bool.{true}
use mathlib.Core.Path.{◌≡◌, sym, ◌∙◌}
use native.Mathlib.Omega.{arith}
use Rattle.refusals.proofs.Tests.{told}
use Rattle.journal_entry.specs.Places.{is_clone_kind}
use Rattle.journal_entry.proofs.Walks.{at_most_one}
use Rattle.journalist.specs.Record.{hangs_together}
use Rattle.journalist.proofs.Facts.{facts, halves_hang, base_unhung, ring_hung}
use Rattle.journalist.proofs.Appending.{Fits, answers_4, answers_22, answers_5, answers_6}
use Rattle.journalist.proofs.Appending.{answers_done}
use Rattle.journalist.proofs.Journalist.append.Goals as goal
use Rattle.journalist.proofs.Journalist.append.Goals.{Else-not-thaw_hangs, then-base_hangs, else-base_hangs}
use Rattle.journalist.proofs.Journalist.append.Goals.{Else-not-has_key}

-- behind the record's test, which is both halves together
hangs : (c : Else-not-thaw_hangs) → hangs_together c.args.self ≡ true
hangs c =
    told
    (elim c.if-base_hangs.branch [
      | then-base_hangs w ↦ w.value-is ∙ w.thaw_hangs.ensures
          ∙ halves_hang _ (told c.base_hangs.ensures w.if-base_hangs.true)
      | else-base_hangs w ↦ w.value-is ∙ w.if-base_hangs.false ∙ sym
          (base_unhung _ (told c.base_hangs.ensures w.if-base_hangs.false))
    ])
    c.if-not-thaw_hangs.false

-- behind the entry's own rows
fits : (c : Else-not-has_key) → hangs_together c.args.self ≡ true
    → let a = c.args in Fits a.self a.ring.now a.kind a.first.now a.second.now
fits c h =
    record {
      hangs = ring_hung _ c.args.ring.now h c.if-ring-self.false;
      first_fits = omega (arith, c.if-first-gt-FIRST_LIMIT.false);
      second_fits = omega (arith, c.second_limit.ensures, c.if-second_limit-second.false);
      keyed = told c.has_key.ensures c.if-not-has_key.false;
    }

pub returns-then-second_limit-second : goal.returns-then-second_limit-second
returns-then-second_limit-second c =
    let a = c.args in
    let h = hangs (goal.at.returns-then-second_limit-second c).Else-not-thaw_hangs in
    let answer = answers_4 a.self a.ring.now a.kind a.first.now a.second.now
    (ring_hung _ a.ring.now h c.if-ring-self.false) (omega (arith, c.if-first-gt-FIRST_LIMIT.false))
    (omega (arith, c.second_limit.ensures, c.if-second_limit-second.true)) in
    record { result_value = answer.0; ring_new = answer.1 }

pub returns-then-not-has_key : goal.returns-then-not-has_key
returns-then-not-has_key c =
    let a = c.args in
    let h = hangs (goal.at.returns-then-not-has_key c).Else-not-thaw_hangs in
    let answer = answers_22 a.self a.ring.now a.kind a.first.now a.second.now
    (ring_hung _ a.ring.now h c.if-ring-self.false) (omega (arith, c.if-first-gt-FIRST_LIMIT.false))
    (omega (arith, c.second_limit.ensures, c.if-second_limit-second.false))
    (told c.has_key.ensures c.if-not-has_key.true) in
    record { result_value = answer.0; ring_new = answer.1 }

pub returns-then-not-region_takes : goal.returns-then-not-region_takes
returns-then-not-region_takes c =
    let a = c.args in
    let h = hangs (goal.at.returns-then-not-region_takes c).Else-not-thaw_hangs in
    let answer = answers_5 a.self a.ring.now a.kind a.first.now a.second.now
    (fits (goal.at.returns-then-not-region_takes c).Else-not-has_key h)
    (told c.region_takes.ensures c.if-not-region_takes.true) in
    record { result_value = answer.0; ring_new = answer.1 }

pub overflow_add-pending : goal.overflow_add-pending
overflow_add-pending c =
    let h = hangs (goal.at.overflow_add-pending c).Else-not-thaw_hangs in
    omega (arith, (facts c.args.self h).counts)

pub overflow_add-result : goal.overflow_add-result
overflow_add-result c =
    let h = hangs (goal.at.overflow_add-result c).Else-not-thaw_hangs in
    omega (arith, (facts c.args.self h).counts)

pub overflow_add-result-2 : goal.overflow_add-result-2
overflow_add-result-2 c =
    let h = hangs (goal.at.overflow_add-result-2 c).Else-not-thaw_hangs in
    omega (
      arith,
      (facts c.args.self h).counts,
      c.second_limit.ensures,
      c.if-second_limit-second.false,
      c.if-first-gt-FIRST_LIMIT.false,
    )

pub overflow_add-result-3 : goal.overflow_add-result-3
overflow_add-result-3 c =
    let h = hangs (goal.at.overflow_add-result-3 c).Else-not-thaw_hangs in
    omega (arith, (facts c.args.self h).counts, at_most_one (is_clone_kind c.args.kind), c.clones.ensures)

pub returns-then-is_err : goal.returns-then-is_err
returns-then-is_err c =
    let a = c.args in
    let h = hangs (goal.at.returns-then-is_err c).Else-not-thaw_hangs in
    let answer = answers_6 a.self a.ring.now a.kind a.first.now a.second.now
    (fits (goal.at.returns-then-is_err c).Else-not-has_key h)
    (told c.region_takes.ensures c.if-not-region_takes.false)
    c.put_entry.result c.put_entry.new.ring _ c.put_entry.ensures (omega arith)
    (sym c.is_err.ensures.value ∙ c.if-is_err.true) in
    record { result_value = answer.0; ring_new = answer.1 }

pub returns : goal.returns
returns c =
    let a = c.args in
    let h = hangs (goal.at.returns c).Else-not-thaw_hangs in
    let answer = answers_done a.self a.ring.now a.kind a.first.now a.second.now
    (fits (goal.at.returns c).Else-not-has_key h)
    (told c.region_takes.ensures c.if-not-region_takes.false)
    c.put_entry.result c.put_entry.new.ring _ c.put_entry.ensures (omega arith)
    (sym c.is_err.ensures.value ∙ c.if-is_err.false) c.clones.result c.clones.ensures in
    record { result_value = answer.0; ring_new = answer.1 }
