use Rattle.text.proofs.TextLaws.{wrote_then}
use Rattle.depot_items.specs.Line.{parameter_text}
use Rattle.depot_items.proofs.line.put_parameter.Goals as goal

pub returns : goal.returns
unfolding parameter_text
returns c =
    wrote_then (wrote_then (wrote_then (wrote_then c.put_margin-a.ensures c.put_parameter-b.ensures) c.put-c.ensures) c.put_item-d.ensures) c.put_byte.ensures
