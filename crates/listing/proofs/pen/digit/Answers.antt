-- `digit` meets its contract: it makes the definition's own test. Assumes nothing.
use borrow.Author.Tests.{lt-ltb, le-ltb}
use Rattle.listing.specs.Text.{digit}
use Rattle.listing.proofs.pen.digit.Goals as goal

pub returns-then-d-lt10 : goal.returns-then-d-lt10
unfolding digit
returns-then-d-lt10 c = rw (lt-ltb _ _ c.if-d-lt10.true)

pub returns-else-d-lt10 : goal.returns-else-d-lt10
unfolding digit
returns-else-d-lt10 c = rw (le-ltb _ _ c.if-d-lt10.false)
