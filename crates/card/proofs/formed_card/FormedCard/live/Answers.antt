-- `card::formed_card::FormedCard::live` meets its contract: as many bytes as the live blocks have, or all to the
-- card's end, and the rest from the region's start on. Assumes nothing.
use native.Mathlib.Omega.{arith}
use Rattle.card.proofs.Formed.{formed_told}
use Rattle.card.proofs.InPlace.{Runs, runs, live_start_in, lowest_of, payload_of}
use Rattle.card.proofs.formed_card.FormedCard.live.Goals as goal
use Rattle.card.proofs.formed_card.FormedCard.live.Goals.{After-min-in_front}

cut : (c : After-min-in_front)
    → Runs c.args.self.now.bytes.now c.of-start.result.start c.of-start.result.len c.min-in_front.result
cut c =
    let card = c.args.self.now in
    runs card.n card.bytes.now _ _ _ card.is c.of-start.ensures.start c.of-start.ensures.len c.min-in_front.ensures

pub overflow_sub-self : goal.overflow_sub-self
overflow_sub-self c =
    let card = c.args.self.now in live_start_in card.n card.bytes.now _ card.is c.of-start.ensures.start

pub slice_bounds-result-end : goal.slice_bounds-result-end
slice_bounds-result-end c = omega (arith, (cut (goal.at.slice_bounds-result-end c).After-min-in_front).in_card)

pub slice_bounds-result-end-2 : goal.slice_bounds-result-end-2
slice_bounds-result-end-2 c = omega (arith, (cut (goal.at.slice_bounds-result-end-2 c).After-min-in_front).back_in)

pub returns-clause-front : goal.returns-clause-front
returns-clause-front c = (cut (goal.at.returns-clause-front c).After-min-in_front).front

pub returns-clause-back : goal.returns-clause-back
returns-clause-back c = (cut (goal.at.returns-clause-back c).After-min-in_front).back

pub returns-clause-lowest : goal.returns-clause-lowest
returns-clause-lowest c =
    let card = c.args.self.now in
    let r = cut (goal.at.returns-clause-lowest c).After-min-in_front in
    lowest_of card.n card.bytes.now (formed_told card.n card.bytes.now card.is) _ _ r.front r.back

pub returns-clause-payload : goal.returns-clause-payload
returns-clause-payload c =
    let card = c.args.self.now in
    let r = cut (goal.at.returns-clause-payload c).After-min-in_front in
    payload_of card.n card.bytes.now (formed_told card.n card.bytes.now card.is) _ _ r.front r.back
