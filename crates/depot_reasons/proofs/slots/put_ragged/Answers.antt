use Rattle.text.proofs.TextLaws.{wrote_then}
use Rattle.depot_reasons.specs.BadSlots.{ragged_text}
use Rattle.depot_reasons.proofs.slots.put_ragged.Goals as goal

pub returns : goal.returns
unfolding ragged_text
returns c =
    wrote_then c.put_labelled-a.ensures c.put.ensures
