-- `hex_over` meets its contract: each turn writes the next byte's digits behind those written. Assumes nothing.
use Prim.Native.Nat.{ℕ, ◌+◌, ◌*◌, ◌≤◌}
use native.Mathlib.Omega.{arith}
use mathlib.Core.Path.{sym, ap₂, ◌∙◌}
use mathlib.Core.List.{◌∷◌, []}
use lib.ListN.{length, take, set, length-set, length-take}
use Rattle.words.proofs.Splice.{splice_nil}
use Rattle.listing.specs.Text.{hex_bytes}
use Rattle.listing.proofs.Puts.{put_one, put_put, put_is, put_ends}
use Rattle.listing.proofs.TextLaws.{hex_long, hex_one_more, hex_whole}
use Rattle.listing.proofs.pen.hex_over.Goals as goal

pub loop-i-init : goal.loop-i-init
unfolding hex_bytes
loop-i-init c = record { text = sym (splice_nil c.args.out.now 0); place = omega arith }

pub loop-i-preserved : goal.loop-i-preserved
loop-i-preserved c =
    let bytes = c.args.bytes.now in
    let i = c.loop-i.i in
    let out = c.loop-i.out in
    let room : 2 * i + 2 ≤ length out = omega (arith, c.loop-i.auto.out, c.requires) in
    let high = put_one out (2 * i) c.digit.result (omega (arith, room)) in
    let low = put_one (set out (2 * i) c.digit.result) (2 * i + 1) c.digit-in-loop-i.result
    (omega (arith, room, length-set out (2 * i) c.digit.result)) in
    let both = put_is (ap₂ (λ (x y : ℕ). x ∷ y ∷ []) c.digit.ensures c.digit-in-loop-i.ensures)
    (put_put high low (omega (arith, room))) in
    put_is (hex_one_more bytes i (omega arith))
    (put_put c.loop-i.invariant (put_ends (omega arith) both)
    (omega (arith, c.requires, hex_long (take i bytes), length-take i bytes)))

pub returns : goal.returns
returns c = c.loop-i.invariant.text ∙ hex_whole c.args.bytes.now c.args.out.now c.loop-i.i (omega arith) c.requires
