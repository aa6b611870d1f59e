use Rattle.conformance_cases.specs.Cases.{newer_line}
use Rattle.conformance_cases.proofs.jobs.newer_line.Goals as goal

pub returns : goal.returns
unfolding newer_line
returns c =
    rw c.pitvorgas_newer.ensures at c.put_newer.ensures
