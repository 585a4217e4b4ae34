-- `card::find` meets its contract: nothing is written where a test fails, and else the payload. Assumes nothing.
use mathlib.Core.Path.{refl}
use Rattle.refusals.specs.declared.ImageRefusal.TheVariants.{Plain}
use Rattle.card.proofs.CallLaws.{find_unformed, find_kept, find_told}
use Rattle.card.proofs.find.Goals as goal

pub returns-in_err-formed-clause-out_new : goal.returns-in_err-formed-clause-out_new
returns-in_err-formed-clause-out_new c =
    let s = c.args in
    find_kept s.n s.card.now s.out.now (Plain _)
    (find_unformed s.n s.card.now _ c.in_err-formed.ensures.why s.out.now)

pub returns-in_err-blocks-clause-out_new : goal.returns-in_err-blocks-clause-out_new
returns-in_err-blocks-clause-out_new c =
    let f = c.in_ok-formed.formed in
    let same = c.in_ok-formed.ensures.card in
    let kept = find_kept f.n f.bytes.now c.args.out.now _ (c.in_err-blocks.ensures c.args.out.now refl) in
    rw (same.0, same.1) at kept

pub copy_live-requires : goal.copy_live-requires
copy_live-requires c =
    let f = c.in_ok-formed.formed in
    (find_told f.n f.bytes.now c.args.out.now _ (c.in_ok-blocks.ensures c.args.out.now refl)).room
