-- `find_rows` meets its contract: a slice is a table where its rows were found. Assumes nothing.
use mathlib.Core.Path.{refl, sym, ◌∙◌}
use Rattle.table_rows.proofs.Finding.{found_told, found_none}
use Rattle.replica_table.proofs.find_rows.Goals as goal

pub returns-in_default : goal.returns-in_default
returns-in_default c =
    let x = c.args in
    (found_none x.count x.table.now x.reach x.key.now (sym c.in_default.is ∙ c.find_in.ensures), refl)

pub returns : goal.returns
returns c =
    let x = c.args in
    found_told x.count x.table.now x.reach x.key.now c.in-Some.found (λ k. (c.type_inv.table k).fits)
    (sym c.in-Some.is ∙ c.find_in.ensures)
