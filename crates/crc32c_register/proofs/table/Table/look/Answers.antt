-- `crc32c_register::table::Table::look` meets its contract: the row at a digit. Assumes nothing.
use Rattle.std.proofs.Common.{◌%◌, arith, ap, ◌∙◌}
use Rattle.crc32c_register.specs.Register.{step_bits}
use Rattle.crc32c_register.proofs.Rows.{row_at}
use Rattle.crc32c_register.proofs.table.Table.look.Goals as goal

pub returns : goal.returns
returns g c =
    let table = c.args.self.now in
    row_at g.row.STEPS 0 (c.args.register % g.row.N) table.rows.now table.right (omega arith)
    ∙ ap (step_bits g.row.STEPS) (omega arith)
