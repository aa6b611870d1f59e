use mathlib.Core.Path.{refl}
use native.Mathlib.Omega.{arith}
use borrow.Author.Rules.{rules}
use lib.Seq.{length-take-le}
use Rattle.translate_plan.proofs.PlanLaws.{walked, writing_starts, writing_done, writing_job, writing_on}
use Rattle.translate_plan.proofs.write_plan.Goals as goal

pub loop-start-init : goal.loop-start-init
loop-start-init c = (refl, λ j. writing_starts _ _ _ _ _ _ j)

pub write_sequence-r-requires : goal.write_sequence-r-requires
write_sequence-r-requires c =
    let (l, e) = walked c.args.starts.now c.args.total _ (omega (arith, c.requires.here.left.inside)) c.loop-start-test.true in
    rw e (writing_job _ _ _ _ _ _ c.requires _ _ _ _ (c.loop-start.invariant.1 c.requires) l)

pub loop-start-preserved : goal.loop-start-preserved
loop-start-preserved c =
    let (l, e) = walked c.args.starts.now c.args.total _ (omega (arith, c.requires.here.left.inside)) c.loop-start-test.true in
    let r = rw e at c.write_sequence-r.ensures in
    (search rules, λ j. writing_on _ _ _ _ _ _ j _ _ _ _ (c.loop-start.invariant.1 j) l _ _ r)

pub returns : goal.returns
returns c j =
    writing_done _ _ _ _ _ _ j _ _ _ _ (c.loop-start.invariant.1 j)
    (omega (arith, length-take-le c.args.total c.args.starts.now (omega (arith, c.requires.here.left.inside))))
