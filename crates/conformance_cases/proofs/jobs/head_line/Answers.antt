use Rattle.conformance_cases.specs.Cases.{head_line}
use Rattle.conformance_cases.proofs.jobs.head_line.Goals as goal
use Rattle.conformance_cases.proofs.jobs.head_line.Goals.{in-Ok, in-Err}

pub returns : goal.returns
unfolding head_line
returns c =
    elim c.match-head.branch [
      | in-Ok w ↦ rw (← w.in-Ok.ensures) (rw (c.left_at.ensures, w.end-is, w.head-is) at c.put_head.ensures)
      | in-Err w ↦ rw (← w.in-Err.ensures) (rw (c.left_at.ensures, w.end-is, w.head-is) at c.put_head.ensures)
    ]
