use mathlib.Core.Path.{◌≡◌}
use lib.ListN.{length}
use Rattle.run_plan.specs.Plan.{PlanJob}
use Rattle.run_plan.proofs.PlanLaws.{Going}
use Rattle.run_plan.proofs.run_plan.Given as goal

abbrev pub invariant-loop-from : goal.invariant-loop-from
invariant-loop-from l =
    (length l.slots ≡ length l.initial.slots) × (length l.trace ≡ length l.initial.trace)
    × ((j : PlanJob l.s l.starts l.total l.vendor l.class l.answers l.initial.slots l.initial.memory l.initial.trace) →
    Going l.s l.vendor l.class l.answers l.starts l.total j.ready.env j.plan l.initial.slots l.initial.memory l.initial.trace l.slots l.memory l.trace l.now l.from-index)
