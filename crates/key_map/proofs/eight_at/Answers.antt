-- `eight_at` meets its contract: the number that eight bytes say, and what a slice holds are bytes. Assumes nothing.
use mathlib.Core.Path.{◌∙◌}
use lib.ListN.{drop}
use Rattle.words.proofs.Slices.{bytes_drop, bytes_take}
use Rattle.key_map.proofs.Digits.{eight_high}
use Rattle.key_map.proofs.eight_at.Goals as goal

pub returns-clause-value : goal.returns-clause-value
returns-clause-value c = c.from_be_bytes.ensures ∙ eight_high c.args.i c.args.s.now c.requires

pub returns-clause-bytes : goal.returns-clause-bytes
returns-clause-bytes c =
    let x = c.args in
    bytes_take 8 (drop x.i x.s.now) (bytes_drop x.i x.s.now (λ k. (c.type_inv.s k).fits))
