use Rattle.text.proofs.TextLaws.{wrote_then}
use Rattle.depot_slot_lines.specs.SlotLines.{names_text}
use Rattle.depot_slot_lines.proofs.put_names.Goals as goal

pub returns : goal.returns
unfolding names_text
returns c =
    rw (← c.slot_name.ensures) (wrote_then (wrote_then (wrote_then (wrote_then c.put-a.ensures c.put_part-b.ensures) c.put-c.ensures)
    c.put_identifier-d.ensures) c.put_byte.ensures)
