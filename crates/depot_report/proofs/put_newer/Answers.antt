use Rattle.text.proofs.TextLaws.{wrote_then}
use Rattle.depot_report.specs.Report.{newer_text}
use borrow.Author.Tests.{eq-eqb, ne_eqb}
use Rattle.depot_report.proofs.put_newer.Goals as goal

pub returns-then-answer-eq0 : goal.returns-then-answer-eq0
unfolding newer_text
returns-then-answer-eq0 c = rw (eq-eqb _ 0 c.if-answer-eq0.true) c.put.ensures

pub returns : goal.returns
unfolding newer_text
returns c =
    rw (ne_eqb _ 0 c.if-answer-eq0.false) (wrote_then (wrote_then (wrote_then c.put_which-a.ensures c.put_labelled-b.ensures) c.put-c.ensures) c.put_manifest.ensures)
