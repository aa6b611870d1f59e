use Rattle.text_rows.specs.Rows.{wide}
use Rattle.depot_record_lines.specs.Lines.{column}
use Rattle.depot_record_lines.proofs.LineLaws.{wrote-wide}
use Rattle.depot_record_lines.proofs.put_label.Goals as goal

pub returns : goal.returns
unfolding wide
returns c =
    wrote-wide column c.put_name-a.ensures c.gap.ensures c.put_spaces.ensures
