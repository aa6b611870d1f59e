use Rattle.depot_record_lines.specs.Lines.{name_text}
use Rattle.text.proofs.TextLaws.{wrote_then}
use Rattle.depot_record_lines.proofs.put_name.Goals as goal

pub returns : goal.returns
unfolding name_text
returns c =
    wrote_then c.put_command-to.ensures c.put_code.ensures
