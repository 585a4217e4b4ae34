-- `marshalling::image::write_image` meets its contract: the two words and the list are written, and the runs made are
-- all. Assumes nothing.
use mathlib.Core.Path.{◌≡◌}
use Prim.Native.Nat.{◌-◌, ◌*◌}
use native.Mathlib.Omega.{arith}
use lib.ListN.{length, drop, length-append, length-drop}
use lib.Seq.{length-take-le}
use Rattle.journal_entry.specs.Sequence.{joined}
use Rattle.marshalling.specs.Forms.{forms_bytes}
use Rattle.marshalling.proofs.Writing.{image_written}
use Rattle.marshalling.proofs.Runs.{takes_all}
use Rattle.marshalling.proofs.image.write_image.Goals as goal

pub returns : goal.returns
returns c =
    let a = c.args in
    let f = a.forms in
    let long : length (forms_bytes f) ≡ f.len =
    length-take-le f.len (drop f.at (joined f.ring)) (rw (length-drop, length-append) (omega (arith, f.inside))) in
    let all = takes_all f.ring.front.now f.ring.back.now f.at f.len f.inside (4064 * a.blocks - 8)
    c.write_blocks.result (omega arith) c.write_blocks.ensures.takes in
    record {
      out_new = image_written a.entries a.blocks c.header.result (forms_bytes f) (drop (4096 * a.blocks) a.out.now)
          c.write_blocks.new.out c.header.ensures (omega arith) c.write_blocks.ensures.out_new;
      value = all.0;
      upper_bound = all.1;
    }
