-- `card::formed_card::FormedCard::of` meets its contract: the length, and then block 0 decide. Assumes nothing.
use Rattle.refusals.proofs.Tests.{told}
use Rattle.card.proofs.CallLaws.{sized_told, formed_18}
use Rattle.card.proofs.formed_card.FormedCard.of.Goals as goal

pub returns-then-not-is_formed-clause-why : goal.returns-then-not-is_formed-clause-why
returns-then-not-is_formed-clause-why c =
    formed_18 c.args.n c.args.bytes.now (sized_told c.args.n c.args.bytes.now (c.in_ok-sized.ensures)).0
    (told c.is_formed.ensures c.if-not-is_formed.true)

pub invariant_of-result : goal.invariant_of-result
invariant_of-result c = record {
  few = (sized_told c.args.n c.args.bytes.now (c.in_ok-sized.ensures)).0;
  is = told c.is_formed.ensures c.if-not-is_formed.false;
}
