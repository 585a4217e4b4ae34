-- `row` meets its contract: the key of a row that was read lies in the table. Assumes nothing.
use mathlib.Core.Path.{sym, ◌∙◌}
use Rattle.table_rows.proofs.RowPlaces.{key_inside}
use Rattle.table_rows.proofs.rest.Rest.row.Goals as goal

pub key_of-requires-in-Some : goal.key_of-requires-in-Some
key_of-requires-in-Some c =
    key_inside c.args.table.now c.args.self.rows.at c.in_ok-row.row (sym c.row_at.ensures ∙ c.in_ok-row.was)
