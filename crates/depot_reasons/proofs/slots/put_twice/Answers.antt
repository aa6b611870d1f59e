use Rattle.text.proofs.TextLaws.{wrote_then}
use Rattle.depot_reasons.specs.BadSlots.{twice_text}
use Rattle.depot_reasons.proofs.slots.put_twice.Goals as goal

pub returns : goal.returns
unfolding twice_text
returns c =
    rw (← c.slot_name.ensures) (wrote_then (wrote_then (wrote_then (wrote_then c.put_labelled-a.ensures
    c.put_labelled-b.ensures) c.put-c.ensures)
    c.put_identifier-d.ensures) c.put_byte.ensures)
