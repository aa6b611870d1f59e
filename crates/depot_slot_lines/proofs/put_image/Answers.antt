use Rattle.text.proofs.TextLaws.{wrote_then}
use Rattle.depot_slot_lines.specs.SlotLines.{image_text}
use Rattle.depot_slot_lines.proofs.put_image.Goals as goal

pub returns : goal.returns
unfolding image_text
returns c =
    rw (← c.size.ensures, ← c.capacity.ensures) (wrote_then (wrote_then (wrote_then (wrote_then c.put_present-a.ensures c.put-b.ensures)
    c.put_padded-c.ensures)
    c.put-d.ensures) c.put_padded.ensures)
