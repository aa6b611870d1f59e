use borrow.Author.Tests.{eq-eqb, ne_eqb}
use Rattle.depot_report.proofs.put_which.Goals as goal

pub returns-then-second-eq0 : goal.returns-then-second-eq0
returns-then-second-eq0 c = rw (eq-eqb _ 0 c.if-second-eq0.true) c.put.ensures

pub returns : goal.returns
returns c = rw (ne_eqb _ 0 c.if-second-eq0.false) c.put-2.ensures
