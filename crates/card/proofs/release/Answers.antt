-- `card::release` meets its contract: nothing is written where a test fails, and the card has a block 0. Assumes
-- nothing.
use native.Mathlib.Omega.{arith}
use mathlib.Core.Path.{ap}
use lib.ListN.{length}
use Rattle.refusals.specs.declared.ImageRefusal.TheVariants.{Plain}
use Rattle.card.proofs.Formed.{formed_told}
use Rattle.card.proofs.CallLaws.{release_unformed}
use Rattle.card.proofs.ReleaseLaws.{release_kept}
use Rattle.card.proofs.release.Goals as goal

pub returns-in_err-of-clause-card_new : goal.returns-in_err-of-clause-card_new
returns-in_err-of-clause-card_new c =
    let s = c.args in
    release_kept s.n s.card.now (Plain _) (release_unformed s.n s.card.now _ c.in_err-of.ensures.why)

pub returns-in_err-release-clause-card_new : goal.returns-in_err-release-clause-card_new
returns-in_err-release-clause-card_new c =
    let f = c.in_ok-of.field-0 in
    let same = c.in_ok-of.ensures.card in
    let kept = release_kept f.n f.bytes.now _ c.in_err-release.ensures.why in
    rw (same.0, same.1) at kept

pub rewrite-requires : goal.rewrite-requires
rewrite-requires c =
    let f = c.in_ok-of.field-0 in
    let same = c.in_ok-of.ensures.card in
    omega (arith, (formed_told f.n f.bytes.now f.is).size, ap length same.1)
