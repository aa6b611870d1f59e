use Rattle.translate_plan.specs.Plan.{PlanHere}
use Rattle.translate_plan.proofs.PlanLaws.{Sizing}
use Rattle.translate_plan.proofs.size_plan.Given as goal

abbrev pub invariant-loop-start : goal.invariant-loop-start
invariant-loop-start l = (j : PlanHere l.s l.table l.fn.starts l.fn.total) → Sizing l.s l.table l.fn.starts l.fn.total j l.start-index l.now
