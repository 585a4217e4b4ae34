-- `list_refusal` meets its contract: a number of 64 bits has at most 20 digits, so its line has room. Assumes nothing.
use borrow.Author.Rules.{rules}
use Rattle.listing.proofs.Answers.{refusal_short, refusal_text}
use Rattle.listing.proofs.list_refusal.Goals as goal

pub returns-then-text-lt32 : goal.returns-then-text-lt32
returns-then-text-lt32 c = refusal_short c.args.number c.args.text.now c.if-text-lt32.true

pub returns : goal.returns
returns c =
    refusal_text c.args.number c.args.text.now c.if-text-lt32.false (search rules) c.number.ensures.put
