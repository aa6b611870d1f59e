use Rattle.manifest_plan.proofs.StartLaws.{putting_starts, putting_fits, putting_on, none-put, some-put}
use Rattle.manifest_plan.proofs.plan.Goals as goal

pub loop-k-init : goal.loop-k-init
loop-k-init c = putting_starts _ _ _

pub put_section-n-requires : goal.put_section-n-requires
put_section-n-requires c =
    (c.loop-k.invariant.some.0, c.loop-k-test.true, putting_fits _ _ _ _ _ _ c.loop-k.invariant c.loop-k-test.true)

pub loop-k-preserved : goal.loop-k-preserved
loop-k-preserved c = putting_on _ _ _ _ _ _ c.loop-k.invariant c.loop-k-test.true _ _ c.put_section-n.ensures

pub returns-then-n-eq0 : goal.returns-then-n-eq0
returns-then-n-eq0 c = none-put _ _ _ _ _ _ c.loop-k.invariant c.loop-k-test.false c.if-n-eq0.true _ _ c.put_start.ensures

pub returns : goal.returns
returns c = some-put _ _ _ _ _ _ c.loop-k.invariant c.loop-k-test.false c.if-n-eq0.false
