-- `crc32c::with_words` meets its contract. The invariant: the four registers, with the bytes that are left, are the
-- register with all. Assumes nothing.
use mathlib.Core.Path.{refl, ap, ◌∙◌}
use Prim.Native.Nat.{◌*◌, ◌/◌}
use native.Mathlib.Omega.{arith}
use lib.ListN.{length, drop}
use Rattle.words.specs.Words.{unpack}
use Rattle.crc32c.proofs.Lanes.{lanes_none, word_of_chunk, front_word, in_rotation, turn_at}
use Rattle.crc32c.proofs.with_words.Goals as goal

pub loop-word-init : goal.loop-word-init
loop-word-init c = (refl, lanes_none 3 _ _)

pub loop-word-preserved : goal.loop-word-preserved
loop-word-preserved c =
    let at = c.loop-word in
    let s = c.args.s.now in
    let front = c.split_at.result.0.now in
    let w =
    word_of_chunk (length front / 4) at.word-index _ front (omega arith) (omega arith) _ c.as_chunks.ensures.front
    c.from_le_bytes.ensures ∙ ap unpack (front_word _ at.word-index front s c.split_at.ensures.front (omega arith)) in (
      refl,
      turn_at s (λ k. (c.type_inv.s k).fits) _ _ _ _ at.word-index _ _ (omega arith) w c.step_128.ensures
          ∙ in_rotation at.registers (drop (4 * at.word-index) s) at.invariant.0
          ∙ at.invariant.1,
    )
