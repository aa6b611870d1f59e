use mathlib.Core.Logic.{inl, inr}
use Rattle.program_steps.proofs.OnwardLaws.{target-job, onward-target, onward-next}
use Rattle.program_steps.proofs.onward.Goals as goal

pub advance-requires : goal.advance-requires
advance-requires c = target-job _ _ _ _ c.requires c.if-target-ne-NO_TARGET.true

pub returns-then-target-ne-NO_TARGET : goal.returns-then-target-ne-NO_TARGET
returns-then-target-ne-NO_TARGET c = λ j.
    onward-target _ _ _ _ j _ c.if-done-eq-CONDITION_FAILED.true c.if-target-ne-NO_TARGET.true _ (c.advance.ensures (target-job _ _ _ _ j c.if-target-ne-NO_TARGET.true))

pub returns : goal.returns
returns c = λ j.
    onward-next _ _ _ _ j _
    (λ z. elim c.else-done-eq-CONDITION_FAILED.either [ inl h ↦ h.1 | inr h ↦ absurd (h z) ])
