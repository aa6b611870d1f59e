use borrow.Author.Tests.{eq-eqb, ne_eqb}
use Rattle.conformance_check_lines.specs.CheckLines.{place_text}
use Rattle.conformance_check_lines.proofs.put_place.Goals as goal

pub returns-then-k-eq0 : goal.returns-then-k-eq0
unfolding place_text
returns-then-k-eq0 c =
    rw (eq-eqb _ 0 c.if-k-eq0.true, ← c.number_at-2.ensures, ← c.number_at.ensures) c.put_format.ensures

pub returns : goal.returns
unfolding place_text
returns c =
    rw (ne_eqb _ 0 c.if-k-eq0.false, ← c.number_at-2.ensures, ← c.number_at.ensures) c.put_format-2.ensures
