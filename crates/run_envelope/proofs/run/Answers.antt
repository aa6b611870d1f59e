use Rattle.manifest_accessors.proofs.AcceptedLaws.{accepted}
use Rattle.run_envelope.proofs.OutcomeLaws.{refused-check}
use Rattle.run_envelope.proofs.run.Goals as goal

pub run_checked-requires : goal.run_checked-requires
run_checked-requires c = accepted _ _ c.in-Ok.ensures.0

pub returns-in-Err : goal.returns-in-Err
returns-in-Err c = rw c.refused.ensures (refused-check _ _ c.in-Err.ensures.0 _ _)
