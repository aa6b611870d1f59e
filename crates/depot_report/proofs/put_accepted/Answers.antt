use Rattle.text.proofs.TextLaws.{wrote_then}
use Rattle.depot_report.specs.Report.{accepted_text}
use Rattle.depot_report.proofs.put_accepted.Goals as goal

pub returns : goal.returns
unfolding accepted_text
returns c =
    wrote_then (wrote_then (wrote_then c.put_head-a.ensures c.put_components-b.ensures) c.put_sections-c.ensures) c.put_manifest.ensures
