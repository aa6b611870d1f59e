use mathlib.Core.Path.{◌≡◌}
use lib.ListN.{length}
use Rattle.translate_plan.specs.Plan.{PlanJob}
use Rattle.translate_plan.proofs.PlanLaws.{Writing}
use Rattle.translate_plan.proofs.write_plan.Given as goal

abbrev pub invariant-loop-start : goal.invariant-loop-start
invariant-loop-start l =
    (length l.room ≡ length l.initial.room) × ((j : PlanJob l.s l.table l.fn.starts l.fn.total l.to l.initial.room) → Writing l.s l.table l.fn.starts l.fn.total l.to l.initial.room j l.room l.n l.at l.start-index)
