use Rattle.text.proofs.TextLaws.{wrote_then}
use Rattle.depot_reasons.specs.BadSlots.{sizes_text}
use Rattle.depot_reasons.proofs.slots.put_sizes.Goals as goal

pub returns : goal.returns
unfolding sizes_text
returns c =
    rw (← c.size.ensures, ← c.capacity.ensures) (wrote_then (wrote_then c.put_labelled-a.ensures c.put_labelled-b.ensures)
    c.put_byte.ensures)
