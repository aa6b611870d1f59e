use Rattle.manifest_accessors.proofs.AcceptedLaws.{few, inside}
use Rattle.run_envelope.proofs.OutcomeLaws.{refused-answer, job, last-event, answered}
use Rattle.run_envelope.proofs.run_checked.Goals as goal

pub admit-requires : goal.admit-requires
admit-requires c = (few _ _ _ _ _ c.requires, inside _ _ _ _ _ c.requires)

pub returns-in-Err : goal.returns-in-Err
returns-in-Err c =
    rw c.refused.ensures
    (refused-answer _ _ _ _ _ c.requires _ _ _ c.admit.ensures.0 c.in-Err.refusal c.in-Err.is)

pub run_plan-done-requires : goal.run_plan-done-requires
run_plan-done-requires c =
    job _ _ _ _ _ c.requires _ _ _ c.admit.ensures.0 c.in_default.is _ (c.admit.ensures.1 c.in_default.is) _ _ c.plan-total.ensures

pub ended-requires : goal.ended-requires
ended-requires c =
    last-event _ _ _ _ _ c.requires _ _ _ c.admit.ensures.0 c.in_default.is _ (c.admit.ensures.1 c.in_default.is)
    _ _ c.plan-total.ensures _ _ _ _ c.run_plan-done.ensures

pub returns : goal.returns
returns c =
    answered _ _ _ _ _ c.requires _ _ _ c.admit.ensures.0 c.in_default.is _ (c.admit.ensures.1 c.in_default.is)
    _ _ c.plan-total.ensures _ _ _ _ c.run_plan-done.ensures _ _ c.ended.ensures c.number_after.ensures
