-- `marshalling::fill::fill_payload` meets its contract: what is left of the header is copied, and behind it the list
-- goes on. Assumes nothing.
use mathlib.Core.Path.{◌≡◌}
use Prim.Native.Nat.{ℕ, ◌-◌}
use native.Mathlib.Omega.{arith}
use lib.ListN.{length, take, drop, length-take}
use Rattle.words.proofs.Splice.{put_mid_front}
use Rattle.marshalling.specs.Forms.{forms_bytes}
use Rattle.marshalling.proofs.Filling.{after_least, payload_filled}
use Rattle.marshalling.proofs.fill.fill_payload.Goals as goal

pub returns-clause-dst_new : goal.returns-clause-dst_new
returns-clause-dst_new c =
    let a = c.args in
    let h = a.batch.now.header in
    let eight : length h ≡ 8 = omega arith in
    let front = take (8 - c.min.result) (drop c.min.result h) in
    let left = rw eight at (after_least h a.from c.min.result (rw eight c.min.ensures)) in
    payload_filled a.dst.now h front _ a.from left (omega (arith, length-take {A = ℕ}))
    (put_mid_front a.dst.now front _ _ c.copy_from_slice.ensures.after (omega arith))
    c.fill_runs.new.dst (forms_bytes a.batch.now.forms) c.saturating_sub.result (rw eight c.saturating_sub.ensures)
    c.fill_runs.ensures.dst_new
