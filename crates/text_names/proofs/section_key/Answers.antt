use borrow.Author.Tests.{eq-eqb, ne_eqb}
use Rattle.text_names.proofs.section_key.Goals as goal

pub returns-then-j-eq0 : goal.returns-then-j-eq0
returns-then-j-eq0 c = rw (eq-eqb _ 0 c.if-j-eq0.true)

pub returns : goal.returns
returns c = rw (ne_eqb _ 0 c.if-j-eq0.false)
