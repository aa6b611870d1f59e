use mathlib.Core.Path.{sym, ◌∙◌}
use native.Mathlib.Omega.{arith}
use Rattle.program_steps.proofs.StepLaws.{step_room, jump-here, step_jumped, execute_job, step-done}
use Rattle.program_steps.proofs.step.Goals as goal

pub bounds-p-at : goal.bounds-p-at
bounds-p-at c = omega (arith, step_room _ _ _ _ _ _ _ _ _ c.requires)

pub jump-place-requires : goal.jump-place-requires
jump-place-requires c = jump-here _ _ _ _ _ _ _ _ _ c.requires (sym c.wide.ensures.0 ∙ c.if-wide-eq-JUMP.true)

pub returns-then-wide-eq-JUMP : goal.returns-then-wide-eq-JUMP
returns-then-wide-eq-JUMP c = λ j.
    let e = sym c.wide.ensures.0 ∙ c.if-wide-eq-JUMP.true in
    step_jumped _ _ _ _ _ _ _ _ _ j e _ (c.jump-place.ensures (jump-here _ _ _ _ _ _ _ _ _ j e))

pub execute-requires : goal.execute-requires
execute-requires c =
    execute_job _ _ _ _ _ _ _ _ _ c.requires (λ k. c.if-wide-eq-JUMP.false (c.wide.ensures.0 ∙ k))

pub returns : goal.returns
returns c = λ j.
    step-done _ _ _ _ _ _ _ _ _ j (λ k. c.if-wide-eq-JUMP.false (c.wide.ensures.0 ∙ k)) _ _ _ _
    (c.execute.ensures (execute_job _ _ _ _ _ _ _ _ _ j (λ k. c.if-wide-eq-JUMP.false (c.wide.ensures.0 ∙ k))))
