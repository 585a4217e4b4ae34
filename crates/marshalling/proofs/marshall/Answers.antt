-- `marshalling::marshall` meets its contract: each refusal is a test that fails, and once all hold the image is
-- written from what is left of both parts. Assumes nothing.
use Prim.Native.Nat.{◌+◌, ◌≤◌}
use native.Mathlib.Omega.{arith}
use lib.ListN.{length}
use Rattle.journal_entry.specs.Sequence.{joined}
use Rattle.marshalling.proofs.Answers.{done}
use Rattle.marshalling.proofs.marshall.Goals as goal

pub returns : goal.returns
returns c =
    let a = c.args in
    let there : a.at + a.n ≤ length (joined a.ring) = omega (arith, c.len-len.ensures) in
    done (joined a.ring) a.at a.n a.entries a.blocks a.out.now there (omega arith) (omega arith)
    c.write_image.new.out c.write_image.ensures.out_new
