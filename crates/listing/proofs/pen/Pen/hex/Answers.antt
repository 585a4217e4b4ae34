-- `hex` meets its contract: the part behind the place, twice as long as the bytes, takes their digits.
-- Assumes nothing.
use native.Mathlib.Omega.{arith}
use mathlib.Core.Path.{refl}
use Rattle.words.proofs.Splice.{put_mid_splice}
use Rattle.listing.specs.Text.{hex_bytes}
use Rattle.listing.proofs.Puts.{puts_made}
use Rattle.listing.proofs.TextLaws.{hex_long}
use Rattle.listing.proofs.pen.Pen.hex.Goals as goal

pub returns : goal.returns
returns c =
    let bytes = c.args.bytes.now in
    let at = c.args.self.now.at in
    let long = hex_long bytes in
    puts_made c.requires refl (record {
      text =
          put_mid_splice c.args.self.now.text.now _ (hex_bytes bytes) at _ c.hex_over.ensures (omega (arith, long));
      place = omega (arith, long);
    })
