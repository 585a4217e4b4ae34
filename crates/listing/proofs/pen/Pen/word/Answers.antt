-- `word` meets its contract: a copy onto the part from the place on puts the word there. Assumes nothing.
use native.Mathlib.Omega.{arith}
use mathlib.Core.Path.{refl}
use Rattle.words.proofs.Splice.{put_mid_splice}
use Rattle.listing.proofs.Puts.{puts_made}
use Rattle.listing.proofs.pen.Pen.word.Goals as goal

pub returns : goal.returns
returns c =
    puts_made c.requires refl (record {
      text =
          put_mid_splice c.args.self.now.text.now _ c.args.word.now c.args.self.now.at _
          c.copy_from_slice.ensures.after (omega arith);
      place = refl;
    })
