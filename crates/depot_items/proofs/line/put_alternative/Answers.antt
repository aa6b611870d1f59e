use Rattle.text.proofs.TextLaws.{wrote_then}
use Rattle.depot_items.specs.Line.{alternative_text}
use Rattle.depot_items.proofs.line.put_alternative.Goals as goal

pub returns : goal.returns
unfolding alternative_text
returns c =
    wrote_then (wrote_then c.put_margin-a.ensures c.put_labelled-b.ensures) c.put_byte.ensures
