-- `lister::list_image` meets its contract: by the lent lengths, the image's length, and what strip answered.
-- Assumes nothing.
use mathlib.Core.Path.{refl}
use native.Mathlib.Omega.{arith}
use lib.ListN.{length}
use Rattle.journal_image.proofs.Outcomes.{Given, given_told, answer_told}
use Rattle.lister.proofs.Images.{too_long, strip_refused, strip_blocks}
use Rattle.lister.proofs.list_image.Goals as goal
use Rattle.lister.proofs.list_image.Goals.{In-Ok}

blocks : (c : In-Ok) → Given c.args.image.now c.args.payload.now c.in-Ok.blocks
blocks c =
    given_told c.args.image.now c.args.payload.now c.in-Ok.blocks (answer_told c.strip.ensures.result_value c.in-Ok.is)

pub returns-then-image-gt-IMAGE : goal.returns-then-image-gt-IMAGE
returns-then-image-gt-IMAGE c =
    too_long c.args.image.now (length c.args.payload.now) (length c.args.replay.now) c.args.text.now
    (record { of_payload = omega arith; of_replay = omega arith; of_text = omega arith })
    _ _ (omega arith) c.into.ensures c.list_refusal.ensures

pub overflow_mul-blocks : goal.overflow_mul-blocks
overflow_mul-blocks c =
    record { fits = omega (arith, (blocks (goal.at.overflow_mul-blocks c).In-Ok).count) }

pub slice_bounds-list_payload-end : goal.slice_bounds-list_payload-end
slice_bounds-list_payload-end c =
    omega (arith, (blocks (goal.at.slice_bounds-list_payload-end c).In-Ok).room, c.strip.auto.out)

pub returns-in-Ok : goal.returns-in-Ok
returns-in-Ok c =
    strip_blocks c.args.image.now (length c.args.payload.now) (length c.args.replay.now) c.args.text.now
    (record { of_payload = omega arith; of_replay = omega arith; of_text = omega arith })
    (omega arith) c.args.payload.now refl c.in-Ok.blocks c.strip.new.out _
    (answer_told c.strip.ensures.result_value c.in-Ok.is)
    c.strip.ensures.out_new c.list_payload.ensures

pub returns-in-Err : goal.returns-in-Err
returns-in-Err c =
    strip_refused c.args.image.now (length c.args.payload.now) (length c.args.replay.now) c.args.text.now
    (record { of_payload = omega arith; of_replay = omega arith; of_text = omega arith })
    (omega arith) c.args.payload.now refl c.in-Err.why _ _
    (answer_told c.strip.ensures.result_value c.in-Err.is)
    c.number.ensures c.list_refusal-in-Err.ensures
