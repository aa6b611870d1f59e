use Rattle.text.proofs.TextLaws.{wrote_then}
use Rattle.depot_report.specs.Report.{manifest_text}
use Rattle.depot_report.proofs.put_manifest.Goals as goal

pub returns : goal.returns
unfolding manifest_text
returns c =
    wrote_then c.put-a.ensures c.put_span.ensures
