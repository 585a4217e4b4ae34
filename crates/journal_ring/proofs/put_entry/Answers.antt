-- Where a test refuses, a fact of `Taken` fails; behind the tests all of them hold, and the form is written.
-- Assumes nothing.
use native.Mathlib.Omega.{arith}
use Rattle.journal_ring.proofs.Taken.{put_done}
use Rattle.journal_ring.proofs.put_entry.Goals as goal

pub returns : goal.returns
returns c =
    let a = c.args in
    put_done a.ring.now a.start a.pending a.kind a.first.now a.second.now
    (record {
      inside = omega arith;
      holds = omega arith;
      first_fits = omega arith;
      second_fits = omega arith;
      room = omega arith;
    })
    c.put_form.new.ring c.advance-at.result (c.advance-at.ensures.value (omega arith)) c.put_form.ensures
