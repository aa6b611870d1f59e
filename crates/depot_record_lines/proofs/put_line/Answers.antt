use Rattle.depot_record_lines.specs.Lines.{line_text}
use Rattle.text.proofs.TextLaws.{wrote_then}
use Rattle.depot_record_lines.proofs.put_line.Goals as goal

pub returns : goal.returns
unfolding line_text
returns c =
    wrote_then (wrote_then (wrote_then c.put_label-a.ensures c.put_labelled-b.ensures) c.put-c.ensures) c.put_padded.ensures
