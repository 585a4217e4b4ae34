-- One run, or two where the bytes reach the ring's end: what is lent goes back as an overwrite.
-- Assumes nothing.
use mathlib.Core.Path.{sym, ◌∙◌}
use Prim.Native.Nat.{◌+◌, ◌<◌, ◌≤◌}
use native.Mathlib.Omega.{arith}
use lib.ListN.{length}
use Rattle.journal_ring.proofs.Rotation.{advance_near, advance_far}
use Rattle.journal_ring.proofs.Runs.{put_one_run, put_two_runs}
use Rattle.journal_ring.proofs.put_bytes.Goals as goal

pub returns-then-n-room : goal.returns-then-n-room
returns-then-n-room c =
    let l = c.args.ring.now in
    let f = c.args.src.now in
    let near : c.args.at + length f < length l = omega arith in record {
      value = sym (advance_near (length l) c.args.at (length f) near);
      ring_new = put_one_run l c.args.at f c.copy_from_slice.new.self c.copy_from_slice.ensures.after (omega arith);
      upper_bound = near;
    }

pub returns : goal.returns
returns c =
    let l = c.args.ring.now in
    let f = c.args.src.now in
    let far : length l ≤ c.args.at + length f = omega arith in record {
      value = sym (advance_far (length l) c.args.at (length f) far ∙ omega arith);
      ring_new = put_two_runs l c.args.at f c.copy_from_slice-2.new.self c.copy_from_slice-3.new.self c.requires.0
          (omega arith) c.requires.1
          c.copy_from_slice-2.ensures.after c.copy_from_slice-3.ensures.after;
      upper_bound = omega arith;
    }
