-- `crc32c_register::step_bits` meets its contract: one step more at each turn. Assumes nothing.
use Rattle.std.proofs.Common.{refl, sym, ap, ◌∙◌}
use Rattle.crc32c_register.specs.Register.{step_bit, step_bits}
use Rattle.crc32c_register.proofs.Steps.{step_bits_add}
use Rattle.crc32c_register.proofs.step_bits.Goals as goal

pub loop-init : goal.loop-init
unfolding step_bits
loop-init c = refl

pub loop-preserved : goal.loop-preserved
unfolding step_bits
loop-preserved c =
    c.step_bit-r.ensures ∙ ap step_bit c.loop.invariant ∙ sym (step_bits_add c.loop.counter 1 c.args.register)
