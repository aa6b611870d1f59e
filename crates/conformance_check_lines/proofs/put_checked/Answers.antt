use borrow.Author.Tests.{eq-eqb, ne_eqb}
use Rattle.conformance_check_lines.specs.CheckLines.{checked_text}
use Rattle.conformance_check_lines.proofs.put_checked.Goals as goal

pub put_accepted-requires : goal.put_accepted-requires
put_accepted-requires c = tt

pub returns-then-answer-eq0 : goal.returns-then-answer-eq0
unfolding checked_text
returns-then-answer-eq0 c =
    rw (eq-eqb _ _ c.if-answer-eq0.true) c.put_accepted.ensures

pub put_refused-requires : goal.put_refused-requires
put_refused-requires c = tt

pub returns : goal.returns
unfolding checked_text
returns c =
    rw (ne_eqb _ _ c.if-answer-eq0.false) c.put_refused.ensures
