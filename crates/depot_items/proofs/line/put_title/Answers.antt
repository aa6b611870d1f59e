use Rattle.text.proofs.TextLaws.{wrote_then}
use Rattle.depot_items.specs.Line.{title_text}
use Rattle.depot_items.proofs.line.put_title.Goals as goal

pub returns : goal.returns
unfolding title_text
returns c =
    wrote_then (wrote_then (wrote_then c.put_padded-a.ensures c.put_margin-b.ensures) c.put_command-c.ensures) c.put_code.ensures
