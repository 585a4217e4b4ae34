-- `journal_image::lowest_damaged` meets its contract: the first chunk whose checksum differs is the lowest damaged
-- block. Assumes nothing.
use Rattle.std.proofs.Common.{rules, arith}
use borrow.Author.Tests.{tests}
use Rattle.journal_image.proofs.Found.{found}
use Rattle.journal_image.proofs.lowest_damaged.Goals as goal

pub returns : goal.returns
returns c =
    let (p, from, told) = c.position.ensures.runs in
    let cut = c.chunks_exact.ensures in
    let chunks = rw (from, cut.rest, cut.size) at (cut.runs p p.seen (rw (from, cut.size) (omega arith))) in
    found _ _ p c.args.image.now chunks (λ a b g k. search rules) (λ x k. search (rules, tests))
    (λ x k. search (rules, tests)) _ told
