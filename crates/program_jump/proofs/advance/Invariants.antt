use Rattle.program_jump.specs.Jump.{AdvanceJob, Advanced}
use Rattle.program_jump.proofs.advance.Given as goal

abbrev pub invariant-loop : goal.invariant-loop
invariant-loop l = (j : AdvanceJob l.p l.at l.n l.t) → Advanced l.p j.group j.components j.total l.n l.at j.place l.counter l.next
