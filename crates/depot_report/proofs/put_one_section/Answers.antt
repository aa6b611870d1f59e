use Rattle.text.proofs.TextLaws.{wrote_none, wrote_then}
use Rattle.depot_report.specs.Report.{section_text}
use borrow.Author.Tests.{eq-eqb, ne_eqb}
use Rattle.depot_report.proofs.put_one_section.Goals as goal

pub returns-then-end-eq0 : goal.returns-then-end-eq0
unfolding section_text
returns-then-end-eq0 c = rw (eq-eqb _ 0 c.if-end-eq0.true) (wrote_none _ _)

pub returns : goal.returns
unfolding section_text
returns c =
    rw (ne_eqb _ 0 c.if-end-eq0.false, ← c.section_key.ensures) (wrote_then (wrote_then c.put-a.ensures c.put_section-b.ensures) c.put_span.ensures)
