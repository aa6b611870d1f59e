use borrow.Author.Tests.{eq-eqb, ne_eqb}
use Rattle.conformance_run_lines.specs.Lines.{ran_text}
use Rattle.conformance_run_lines.proofs.put_ran.Goals as goal

pub returns-then-answer-eq0 : goal.returns-then-answer-eq0
unfolding ran_text
returns-then-answer-eq0 c =
    rw (eq-eqb _ _ c.if-answer-eq0.true) c.put_end.ensures

pub returns : goal.returns
unfolding ran_text
returns c =
    rw (ne_eqb _ _ c.if-answer-eq0.false) c.put_refused.ensures
