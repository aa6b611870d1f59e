use borrow.Author.Tests.{eq-eqb, ne_eqb}
use Rattle.conformance_run_lines.specs.Lines.{separator}
use Rattle.text.proofs.TextLaws.{wrote_none}
use Rattle.conformance_run_lines.proofs.put_separator.Goals as goal

pub returns-then-k-eq0 : goal.returns-then-k-eq0
unfolding separator
returns-then-k-eq0 c = rw (eq-eqb _ _ c.if-k-eq0.true) (wrote_none _ _)

pub returns : goal.returns
unfolding separator
returns c =
    rw (ne_eqb _ _ c.if-k-eq0.false) c.put_byte.ensures
