-- `row_at` meets its contract: each refusal contradicts a fact of `Reads`, and past all of them each holds. Assumes
-- nothing.
use mathlib.Core.Path.{◌≡◌, ap, ◌∙◌}
use Prim.Native.Nat.{ℕ, ◌+◌}
use native.Mathlib.Omega.{arith}
use Rattle.journal_entry.specs.Places.{word_at}
use Rattle.table_rows.proofs.RowRead.{not_read, read}
use Rattle.table_rows.proofs.row_at.Goals as goal
use Rattle.table_rows.proofs.row_at.Goals.{After-word_in-second_len}

-- the second word, behind as many bytes as the first says
second_is : (c : After-word_in-second_len)
    → c.word_in-second_len.result
    ≡ word_at c.args.table.now (c.args.at + 4 + word_at c.args.table.now c.args.at)
second_is c =
    c.word_in-second_len.ensures
    ∙ ap (λ (n : ℕ). word_at c.args.table.now (c.args.at + 4 + n)) c.word_in-first_len.ensures

pub returns-in_err-checked_sub : goal.returns-in_err-checked_sub
returns-in_err-checked_sub c =
    c.from_residual.ensures
    ∙ not_read c.args.table.now c.args.at λ r. omega (arith, r.before, c.in_err-checked_sub.ensures)

pub returns-in_err-room : goal.returns-in_err-room
returns-in_err-room c =
    c.from_residual-in_err-room.ensures
    ∙ not_read c.args.table.now c.args.at λ r.
    omega (arith, r.before, c.in_ok-checked_sub.ensures, c.in_err-room.ensures)

pub returns-then-first_len-gt-FIRST_LIMIT : goal.returns-then-first_len-gt-FIRST_LIMIT
returns-then-first_len-gt-FIRST_LIMIT c =
    not_read c.args.table.now c.args.at λ r.
    omega (arith, r.first_fits, c.word_in-first_len.ensures, c.if-first_len-gt-FIRST_LIMIT.true)

pub returns-in_err-rest : goal.returns-in_err-rest
returns-in_err-rest c =
    c.from_residual-in_err-rest.ensures
    ∙ not_read c.args.table.now c.args.at λ r.
    omega (
      arith,
      r.before,
      c.word_in-first_len.ensures,
      c.in_ok-checked_sub.ensures,
      c.in_ok-room.ensures,
      c.in_err-rest.ensures,
    )

pub returns-then-second_len-gt-VALUE_LIMIT : goal.returns-then-second_len-gt-VALUE_LIMIT
returns-then-second_len-gt-VALUE_LIMIT c =
    let second = second_is (goal.at.returns-then-second_len-gt-VALUE_LIMIT c).After-word_in-second_len in
    not_read c.args.table.now c.args.at λ r.
    omega (arith, r.second_fits, second, c.if-second_len-gt-VALUE_LIMIT.true)

pub returns-then-rest-second_len : goal.returns-then-rest-second_len
returns-then-rest-second_len c =
    let second = second_is (goal.at.returns-then-rest-second_len c).After-word_in-second_len in
    not_read c.args.table.now c.args.at λ r.
    omega (
      arith,
      r.before,
      second,
      c.word_in-first_len.ensures,
      c.in_ok-checked_sub.ensures,
      c.in_ok-room.ensures,
      c.in_ok-rest.ensures,
      c.if-rest-second_len.true,
    )

pub returns : goal.returns
returns c =
    let t = c.args.table.now in
    let second = second_is (goal.at.returns c).After-word_in-second_len in
    rw (second, c.word_in-first_len.ensures)
    (read t c.args.at (record {
      first_fits = omega (arith, c.word_in-first_len.ensures, c.if-first_len-gt-FIRST_LIMIT.false);
      second_fits = omega (arith, second, c.if-second_len-gt-VALUE_LIMIT.false);
      before = omega (
        arith,
        c.word_in-first_len.ensures,
        second,
        c.in_ok-checked_sub.ensures,
        c.in_ok-room.ensures,
        c.in_ok-rest.ensures,
        c.if-rest-second_len.false,
      );
    }))
