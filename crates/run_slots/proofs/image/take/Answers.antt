use mathlib.Core.Path.{◌≡◌, refl, ◌∙◌}
use native.Mathlib.Omega.{arith}
use Rattle.rules.specs.Slots.{answer_bytes}
use Rattle.byte_buffer.proofs.ByteLoops.{copy_start, copy-next, copy-end}
use Rattle.run_slots.proofs.image.take.Goals as goal

pub loop-k-init : goal.loop-k-init
loop-k-init c = (refl, copy_start _ _ _)

pub loop-k-preserved : goal.loop-k-preserved
loop-k-preserved c = (refl, rw c.loop-k.invariant.1 (copy-next _ _ _ _ (omega arith) (omega arith)))

pub returns : goal.returns
returns c =
    let full : c.loop-k.k ≡ answer_bytes = omega arith in
    c.loop-k.invariant.1 ∙ copy-end _ _ _ _ (omega arith) ∙ rw full
