-- `span_at` meets its contract: no more rows are left than there were. Assumes nothing.
use mathlib.Core.Path.{◌∙◌}
use Rattle.table_rows.proofs.Spans.{span_left, span_found}
use Rattle.table_rows.proofs.span_at.Goals as goal

pub between-requires : goal.between-requires
between-requires c =
    let x = c.args in
    span_left x.count x.table.now x.reach x.key.now c.skip_rows-first.result c.skip_rows-last.result
    c.skip_rows-first.ensures c.skip_rows-last.ensures

pub returns : goal.returns
returns c =
    let x = c.args in
    c.between.ensures
    ∙ span_found x.count x.table.now x.reach x.key.now c.skip_rows-first.result c.skip_rows-last.result
    c.skip_rows-first.ensures c.skip_rows-last.ensures
