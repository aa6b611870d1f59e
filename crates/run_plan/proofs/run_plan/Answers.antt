use Prim.Native.Nat.{◌<◌}
use native.Mathlib.Omega.{arith}
use borrow.Author.Rules.{rules}
use Rattle.run_plan.proofs.PlanLaws.{begins, turn-job, turn-stops, turn-goes, all_done}
use Rattle.run_plan.proofs.run_plan.Goals as goal

pub run_sequence-now-requires : goal.run_sequence-now-requires
run_sequence-now-requires c =
    let l : c.loop-from.from-index < c.args.total = omega arith in
    let at = begins c.args.starts.now _ _ c.loop-from.now l _ c.start_of-run.ensures in
    rw at
    (turn-job _ _ _ _ _ _ _ _ _ _ _ _ _ _ _ _ (c.loop-from.invariant.2 c.requires) l)

pub loop-from-preserved : goal.loop-from-preserved
loop-from-preserved c =
    let l : c.loop-from.from-index < c.args.total = omega arith in
    let at = begins c.args.starts.now _ _ c.loop-from.now l _ c.start_of-run.ensures in (
      search rules,
      search rules,
      λ j.
          turn-goes _ _ _ _ _ _ _ _ _ _ _ _ _ _ _ _ (c.loop-from.invariant.2 j) l
          c.start_of-run.result at _ _ _ _ c.run_sequence-now.ensures c.if-now-ne-FINISHED.false,
    )

pub returns-then-now-ne-FINISHED : goal.returns-then-now-ne-FINISHED
returns-then-now-ne-FINISHED c = λ j.
    let l : c.loop-from.from-index < c.args.total = omega arith in
    let at = begins c.args.starts.now _ _ c.loop-from.now l _ c.start_of-run.ensures in
    turn-stops _ _ _ _ _ _ _ _ _ _ _ _ _ _ _ _ (c.loop-from.invariant.2 j) l
    c.start_of-run.result at _ _ _ _ c.run_sequence-now.ensures c.if-now-ne-FINISHED.true

pub returns-after-loop-from : goal.returns-after-loop-from
returns-after-loop-from c = λ j. all_done _ _ _ _ _ _ _ _ _ _ _ _ _ _ _ _ (c.loop-from.invariant.2 j) (omega arith)
