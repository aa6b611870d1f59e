use Rattle.text.proofs.TextLaws.{wrote_then}
use Rattle.depot_slot_lines.specs.SlotLines.{slot_text}
use Rattle.depot_slot_lines.proofs.put_slot.Goals as goal

pub returns : goal.returns
unfolding slot_text
returns c =
    wrote_then (wrote_then (wrote_then (wrote_then c.put-a.ensures c.put_padded-b.ensures) c.put_owner-c.ensures) c.put_image-d.ensures)
    c.put_names.ensures
