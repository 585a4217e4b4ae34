-- `card::formed_card::FormedCard::store_rows` meets its contract: 14, whether a store is left, and 19. Assumes
-- nothing.
use mathlib.Core.Path.{◌≡◌, ap}
use mathlib.Core.Bool.{true}
use native.Mathlib.Omega.{arith}
use Rattle.refusals.specs.Outcome.{gives}
use Rattle.image_range.specs.InPlace.{image_payload}
use Rattle.card.specs.Calls.{store_call}
use Rattle.card.proofs.StoreLaws.{payload_unread, payload_read, store_14, store_empty, store_all, store_19}
use Rattle.card.proofs.StoreLaws.{store_made, store_next}
use Rattle.card.proofs.formed_card.FormedCard.store_rows.Goals as goal
use Rattle.card.proofs.formed_card.FormedCard.store_rows.Goals.{After-store_behind}
use Rattle.card.proofs.formed_card.FormedCard.store_rows.Goals.{then-blocks-eq0-via-then-blocks-eq0}
use Rattle.card.proofs.formed_card.FormedCard.store_rows.Goals.{then-blocks-eq0-via-else-blocks-eq0+then-blocks-made}

pub returns-then-is_none-clause-outcome : goal.returns-then-is_none-clause-outcome
returns-then-is_none-clause-outcome c =
    let card = c.args.self.now in
    store_14 card.n card.bytes.now c.args.image.now c.args.made card.few card.is c.requires.0 c.requires.1
    (payload_unread _ _ (ap image_payload c.from.ensures) _ c.range_in.ensures c.if-is_none.ensures)

pub returns-then-blocks-eq0-clause-outcome : goal.returns-then-blocks-eq0-clause-outcome
returns-then-blocks-eq0-clause-outcome c =
    let card = c.args.self.now in
    let image = c.args.image.now in
    payload_read _ _ (ap image_payload c.from.ensures) _ c.range_in.ensures c.if-is_none.ensures λ new reads.
    elim c.then-blocks-eq0.branch [
      | then-blocks-eq0-via-then-blocks-eq0 w ↦
          store_empty card.n card.bytes.now image c.args.made card.few card.is c.requires.0 c.requires.1 new reads
          (omega (arith, w.if-blocks-eq0.true))
      | then-blocks-eq0-via-else-blocks-eq0+then-blocks-made w ↦
          store_all card.n card.bytes.now image c.args.made card.few card.is c.requires.0 c.requires.1 new reads
          w.if-blocks-made.true
    ]

pub returns-then-self-of-clause-outcome : goal.returns-then-self-of-clause-outcome
returns-then-self-of-clause-outcome c =
    let card = c.args.self.now in
    payload_read _ _ (ap image_payload c.from.ensures) _ c.range_in.ensures c.if-is_none.ensures λ new reads.
    store_19 card.n card.bytes.now c.args.image.now c.args.made card.few card.is c.requires.0 c.requires.1 new reads
    (omega (arith, c.if-blocks-eq0.false)) c.if-blocks-made.false (omega (arith, c.of.ensures.len, c.if-self-of.true))

given : (c : After-store_behind)
    → gives true ≡ store_call c.args.self.now.n c.args.self.now.bytes.now c.args.image.now c.args.made
given c =
    let card = c.args.self.now in
    payload_read _ _ (ap image_payload c.from.ensures) _ c.range_in.ensures c.if-is_none.ensures λ new reads.
    store_made card.n card.bytes.now c.args.image.now c.args.made card.few card.is c.requires.0 c.requires.1 new reads
    (omega (arith, c.if-blocks-eq0.false)) c.if-blocks-made.false (omega (arith, c.of.ensures.len, c.if-self-of.false))

pub returns-clause-outcome : goal.returns-clause-outcome
returns-clause-outcome c = given (goal.at.returns-clause-outcome c).After-store_behind

pub returns-clause-next : goal.returns-clause-next
returns-clause-next c =
    let card = c.args.self.now in (
      c.store_behind.ensures.fits,
      store_next card.n card.bytes.now c.args.image.now c.args.made
          (given (goal.at.returns-clause-next c).After-store_behind) _ c.store_behind.ensures.value,
    )
