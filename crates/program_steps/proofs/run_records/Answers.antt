use mathlib.Core.Path.{refl}
use native.Mathlib.Omega.{arith}
use borrow.Author.Rules.{rules}
use Rattle.program_steps.proofs.RunRecords.{loop_starts, loop_job, loop_done, loop_stops, loop_goes_on, loop_further}
use Rattle.program_steps.proofs.run_records.Goals as goal

pub loop-current-init : goal.loop-current-init
loop-current-init c = (refl, refl, λ j. loop_starts _ _ _ _ _ _ _ _ _ j)

pub step-current-requires : goal.step-current-requires
step-current-requires c =
    loop_job _ _ _ _ _ _ _ _ _ c.requires _ _ _ _ (c.loop-current.invariant.2 c.requires) c.loop-current-test.true

pub returns-then-current-ne-FINISHED : goal.returns-then-current-ne-FINISHED
returns-then-current-ne-FINISHED c = λ j.
    let l = c.loop-current.invariant.2 j in
    loop_stops _ _ _ _ _ _ _ _ _ j _ _ _ _ l c.loop-current-test.true _ _ _ _ (c.step-current.ensures (loop_job _ _ _ _ _ _ _ _ _ j _ _ _ _ l c.loop-current-test.true)) c.if-current-ne-FINISHED.true

pub loop-current-smaller : goal.loop-current-smaller
loop-current-smaller c =
    let l = c.loop-current.invariant.2 c.requires in
    omega (arith, loop_further _ _ _ _ _ _ _ _ _ c.requires _ _ _ _ l c.loop-current-test.true _ _ _ _ (c.step-current.ensures (loop_job _ _ _ _ _ _ _ _ _ c.requires _ _ _ _ l c.loop-current-test.true)))

pub loop-current-preserved : goal.loop-current-preserved
loop-current-preserved c = (
  search rules,
  search rules,
  λ j.
      let l = c.loop-current.invariant.2 j in
      loop_goes_on _ _ _ _ _ _ _ _ _ j _ _ _ _ l c.loop-current-test.true _ _ _ _ (c.step-current.ensures (loop_job _ _ _ _ _ _ _ _ _ j _ _ _ _ l c.loop-current-test.true)) c.if-current-ne-FINISHED.false,
)

pub returns : goal.returns
returns c = λ j. loop_done _ _ _ _ _ _ _ _ _ j _ _ _ _ (c.loop-current.invariant.2 j) (omega (arith, c.loop-current-test.false))
