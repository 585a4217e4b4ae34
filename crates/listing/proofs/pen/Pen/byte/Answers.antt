-- `byte` meets its contract: a byte set at a place is a byte put there. Assumes nothing.
use mathlib.Core.Path.{refl}
use native.Mathlib.Omega.{arith}
use Rattle.listing.proofs.Puts.{put_one, puts_made}
use Rattle.listing.proofs.pen.Pen.byte.Goals as goal

pub returns : goal.returns
returns c = puts_made c.requires refl (put_one c.args.self.now.text.now c.args.self.now.at c.args.b (omega arith))
