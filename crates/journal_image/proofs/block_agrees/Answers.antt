-- `journal_image::block_agrees` meets its contract, by those of `crc32c::checksum` and of `==`; fewer than 32
-- bytes are no checksum. Assumes nothing.
use mathlib.Core.Path.{◌∙◌, ap, ap₂}
use native.Mathlib.Omega.{arith}
use Rattle.std.proofs.Common.{rules}
use lib.ListN.{take, drop, length-take}
use Rattle.words.proofs.Slices.{tail}
use Rattle.crc32c.specs.Crc32c.{checksum_bytes}
use Rattle.crc32c.proofs.Range.{length_checksum_bytes}
use Rattle.journal_image.specs.Image.{same_bytes, checksum_checks_out}
use Rattle.journal_image.proofs.Same.{compared, shorter}
use Rattle.journal_image.proofs.block_agrees.Goals as goal

pub returns-in-Some : goal.returns-in-Some
unfolding checksum_checks_out
returns-in-Some c =
    let (sum, payload, long) = c.in-Some.ensures.cases in
    let whole = tail 32 c.args.block.now in
    c.eq.ensures ∙ compared _ _
    ∙ ap₂ same_bytes sum (c.checksum.ensures ∙ ap checksum_bytes (search (rules, payload, whole)))

pub returns-in-None : goal.returns-in-None
unfolding checksum_checks_out
returns-in-None c =
    let b = c.args.block.now in
    let short = c.in-None.ensures.cases in
    shorter (take 32 b) (checksum_bytes (drop 32 b))
    (omega (arith, short, length-take 32 b, length_checksum_bytes (drop 32 b)))
