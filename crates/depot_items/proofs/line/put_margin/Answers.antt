use Rattle.text.proofs.TextLaws.{wrote_then}
use Rattle.depot_items.specs.Line.{margin_text}
use Rattle.depot_items.proofs.line.put_margin.Goals as goal

pub returns : goal.returns
unfolding margin_text
returns c =
    rw (← c.indent.ensures) (wrote_then c.put_spaces-to.ensures c.put_spaces.ensures)
