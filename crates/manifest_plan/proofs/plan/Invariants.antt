use Rattle.manifest_plan.proofs.StartLaws.{Putting}
use Rattle.manifest_plan.proofs.plan.Given as goal

abbrev pub invariant-loop-k : goal.invariant-loop-k
invariant-loop-k l = Putting l.group l.sections l.initial.starts l.starts l.n l.k
