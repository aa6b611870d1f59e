use Rattle.text.proofs.TextLaws.{wrote_then}
use Rattle.depot_report.specs.Report.{translated_text}
use Rattle.depot_report.proofs.put_translated.Goals as goal

pub returns : goal.returns
unfolding translated_text
returns c =
    wrote_then c.put_labelled-a.ensures c.put.ensures
