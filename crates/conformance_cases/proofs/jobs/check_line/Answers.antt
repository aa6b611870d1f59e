use Rattle.conformance_cases.specs.Cases.{check_line}
use Rattle.conformance_cases.proofs.jobs.check_line.Goals as goal

pub returns : goal.returns
unfolding check_line
returns c =
    rw c.pitvorgas_check.ensures at c.put_checked.ensures
