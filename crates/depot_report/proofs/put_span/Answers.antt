use Rattle.text.proofs.TextLaws.{wrote_then}
use Rattle.depot_report.specs.Report.{span_text}
use Rattle.depot_report.proofs.put_span.Goals as goal

pub returns : goal.returns
unfolding span_text
returns c =
    wrote_then (wrote_then c.put_labelled-a.ensures c.put_labelled-b.ensures) c.put_byte.ensures
