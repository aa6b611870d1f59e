use Rattle.conformance_cases.specs.Cases.{ran_by}
use Rattle.conformance_cases.proofs.jobs.run_by.Goals as goal

pub returns-then-program : goal.returns-then-program
unfolding ran_by
returns-then-program c =
    rw c.if-program.true (rw c.device_of-device.ensures at c.pitvorgas_run_program.ensures)

pub returns : goal.returns
unfolding ran_by
returns c =
    rw c.if-program.false (rw c.device_of-device.ensures at c.pitvorgas_run.ensures)
