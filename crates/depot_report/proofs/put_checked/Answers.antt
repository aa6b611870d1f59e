use Rattle.depot_report.specs.Report.{checked_text}
use borrow.Author.Tests.{eq-eqb, ne_eqb}
use Rattle.depot_report.proofs.put_checked.Goals as goal

pub returns-then-answer-eq0 : goal.returns-then-answer-eq0
unfolding checked_text
returns-then-answer-eq0 c = rw (eq-eqb _ 0 c.if-answer-eq0.true) c.put_accepted.ensures

pub returns : goal.returns
unfolding checked_text
returns c = rw (ne_eqb _ 0 c.if-answer-eq0.false) c.put_refused.ensures
