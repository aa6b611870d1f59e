use Rattle.program_run.proofs.OutcomeLaws.{few, inside, refused-answer, job, last-event, answered}
use Rattle.program_run.proofs.run_tested.Goals as goal

pub admit-requires : goal.admit-requires
admit-requires c = (few _ _ c.requires, inside _ _ c.requires)

pub returns-in-Err : goal.returns-in-Err
returns-in-Err c =
    rw c.refused.ensures
    (refused-answer _ _ c.requires _ _ c.admit.ensures.0 c.in-Err.refusal c.in-Err.is)

pub run_records-done-requires : goal.run_records-done-requires
run_records-done-requires c =
    job _ _ c.requires _ _ c.admit.ensures.0 c.in_default.is _ (c.admit.ensures.1 c.in_default.is)

pub ended-requires : goal.ended-requires
ended-requires c =
    last-event _ _ c.requires _ _ c.admit.ensures.0 c.in_default.is _ (c.admit.ensures.1 c.in_default.is) _ _ _ _ c.run_records-done.ensures

pub returns : goal.returns
returns c =
    answered _ _ c.requires _ _ c.admit.ensures.0 c.in_default.is _ (c.admit.ensures.1 c.in_default.is)
    _ _ _ _ c.run_records-done.ensures _ _ c.ended.ensures c.number_after.ensures
