use native.Mathlib.Omega.{arith}
use lib.Seq.{length-take-le}
use Rattle.translate_plan.proofs.PlanLaws.{walked, sizing_starts, sizing_done, sizing_job, sizing_on, sizing_adds}
use Rattle.translate_plan.proofs.size_plan.Goals as goal

pub size_sequence-r-requires : goal.size_sequence-r-requires
size_sequence-r-requires c =
    let (l, e) = walked c.args.starts.now c.args.total _ (omega (arith, c.requires.left.inside)) c.loop-start-test.true in
    rw e (sizing_job _ _ _ _ c.requires _ _ (c.loop-start.invariant c.requires) l)

pub overflow_add-now : goal.overflow_add-now
overflow_add-now c =
    let (l, e) = walked c.args.starts.now c.args.total _ (omega (arith, c.requires.left.inside)) c.loop-start-test.true in
    let r = rw e at c.size_sequence-r.ensures in
    omega (arith, (sizing_adds _ _ _ _ c.requires _ _ (c.loop-start.invariant c.requires) l _ r).0)

pub overflow_add-now-in-loop-start : goal.overflow_add-now-in-loop-start
overflow_add-now-in-loop-start c =
    let (l, e) = walked c.args.starts.now c.args.total _ (omega (arith, c.requires.left.inside)) c.loop-start-test.true in
    let r = rw e at c.size_sequence-r.ensures in
    omega (arith, (sizing_adds _ _ _ _ c.requires _ _ (c.loop-start.invariant c.requires) l _ r).1)

pub loop-start-init : goal.loop-start-init
loop-start-init c j = sizing_starts _ _ _ _ j

pub loop-start-preserved : goal.loop-start-preserved
loop-start-preserved c j =
    let (l, e) = walked c.args.starts.now c.args.total _ (omega (arith, j.left.inside)) c.loop-start-test.true in
    let r = rw e at c.size_sequence-r.ensures in
    sizing_on _ _ _ _ j _ _ (c.loop-start.invariant j) l _ r

pub returns : goal.returns
returns c j =
    sizing_done _ _ _ _ j _ _ (c.loop-start.invariant j) (omega (arith, length-take-le c.args.total c.args.starts.now (omega (arith, j.left.inside))))
