use Rattle.text.proofs.TextLaws.{wrote_then}
use Rattle.depot_report.specs.Report.{component_text}
use Rattle.depot_report.proofs.put_component.Goals as goal

pub returns : goal.returns
unfolding component_text
returns c =
    wrote_then (wrote_then (wrote_then c.put_labelled-a.ensures c.put_spaces-b.ensures) c.put_identifier_at-c.ensures) c.put_byte.ensures
