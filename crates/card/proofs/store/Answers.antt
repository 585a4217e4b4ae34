-- `card::store` meets its contract: nothing is written where a test fails or none is left. Assumes nothing.
use Rattle.refusals.specs.declared.ImageRefusal.TheVariants.{Plain}
use Rattle.card.proofs.CallLaws.{store_unformed}
use Rattle.card.proofs.StoreLaws.{store_kept}
use Rattle.card.proofs.store.Goals as goal

pub returns-in_err-of-clause-card_new : goal.returns-in_err-of-clause-card_new
returns-in_err-of-clause-card_new c =
    let s = c.args in
    store_kept s.n s.card.now s.image.now s.made (λ t. t) (Plain _)
    (store_unformed s.n s.card.now _ c.in_err-of.ensures.why s.image.now s.made)
