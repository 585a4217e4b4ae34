-- `put_moved` meets its contract: the bytes behind `to` follow it. Assumes nothing.
use mathlib.Core.List.{◌++◌, append_assoc}
use mathlib.Core.Path.{ap, ◌∙◌}
use Prim.Native.Nat.{◌+◌}
use lib.ListN.{length}
use native.Mathlib.Omega.{arith}
use Rattle.words.specs.Words.{word}
use Rattle.words.specs.Lists.{splice}
use Rattle.replica_table.proofs.Putting.{put_two, word_run}
use Rattle.replica_table.proofs.moved.put_moved.Goals as goal

pub returns-clause-dst_new : goal.returns-clause-dst_new
returns-clause-dst_new c =
    let x = c.args in
    let n = word (length x.to.now + x.more) in
    let long = word_run (length x.to.now + x.more) x.to.now in
    put_two x.dst.now x.at (n ++ x.to.now) x.rest.now _ _ _ (omega (arith, long, c.put_sized-behind.ensures.value))
    (omega (arith, long, c.requires)) c.put_sized-behind.ensures.dst_new c.put_bytes.ensures.dst_new
    ∙ ap (splice x.dst.now x.at) (append_assoc n x.to.now x.rest.now)
