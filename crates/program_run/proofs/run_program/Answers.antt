use Rattle.program_run.proofs.OutcomeLaws.{refused-program, known}
use Rattle.program_run.proofs.run_program.Goals as goal

pub run_tested-requires : goal.run_tested-requires
run_tested-requires c = known _ _ c.in-Some.ensures

pub returns-in_default : goal.returns-in_default
returns-in_default c = rw c.refused.ensures (refused-program _ c.in_default.ensures _)
