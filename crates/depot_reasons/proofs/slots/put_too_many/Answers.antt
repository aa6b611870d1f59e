use Rattle.text.proofs.TextLaws.{wrote_then}
use Rattle.depot_reasons.specs.BadSlots.{too_many_text}
use Rattle.depot_reasons.proofs.slots.put_too_many.Goals as goal

pub returns : goal.returns
unfolding too_many_text
returns c =
    wrote_then (wrote_then c.put_labelled-a.ensures c.put_labelled-b.ensures) c.put_byte.ensures
