use Rattle.run_ending.proofs.EndingLaws.{takes, keeps}
use Rattle.run_ending.proofs.number_after.Goals as goal

pub returns-then-end-eq-FINISHED : goal.returns-then-end-eq-FINISHED
returns-then-end-eq-FINISHED c = takes _ c.args.end _ c.args.old c.in-Install.is c.if-end-eq-FINISHED.true

pub returns-else-end-eq-FINISHED : goal.returns-else-end-eq-FINISHED
returns-else-end-eq-FINISHED c = keeps _ c.args.end c.args.new _ c.in-Install.is c.if-end-eq-FINISHED.false
