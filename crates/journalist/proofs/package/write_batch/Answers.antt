-- `write_batch` meets its contract: all of `marshall`'s tests hold but perhaps that of the output.
-- Assumes nothing.
use mathlib.Core.Path.{refl, sym, ◌∙◌}
use Rattle.journalist.proofs.Packaging.{batch_written, batch_unwritten}
use Rattle.journalist.proofs.package.write_batch.Goals as goal

pub returns-then-is_err : goal.returns-then-is_err
returns-then-is_err c =
    let a = c.args in
    let short = batch_unwritten a.list.bytes a.list.entries a.blocks a.out.now _ _ _
    c.requires.list_inside c.requires.bytes_bound c.marshall.ensures
    (sym c.is_err.ensures.value ∙ c.if-is_err.true) in (short.0, refl, short.1)

pub returns : goal.returns
returns c =
    let a = c.args in
    batch_written a.list.bytes a.list.entries a.blocks a.out.now _ _ _
    c.requires.list_inside c.requires.bytes_bound c.marshall.ensures
    (sym c.is_err.ensures.value ∙ c.if-is_err.false)
