use Rattle.manifest_plan.proofs.StartLaws.{put-none, put_some}
use Rattle.manifest_plan.proofs.put_start.Goals as goal

pub returns-then-sections-k-eq0 : goal.returns-then-sections-k-eq0
returns-then-sections-k-eq0 c = put-none c.args.sections.now c.args.starts.now c.args.k c.args.n c.if-sections-k-eq0.true

pub returns : goal.returns
returns c = put_some c.args.sections.now c.args.starts.now c.args.k c.args.n c.if-sections-k-eq0.false
