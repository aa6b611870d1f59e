use Rattle.text.proofs.TextLaws.{wrote_then}
use Rattle.depot_report.specs.Report.{head_text}
use Rattle.depot_report.proofs.put_head.Goals as goal

pub returns : goal.returns
unfolding head_text
returns c =
    wrote_then c.put_labelled-a.ensures c.put_byte.ensures
