use Rattle.text.proofs.TextLaws.{wrote_then}
use Rattle.depot_events.specs.Events.{fields_text}
use Rattle.depot_events.proofs.put_fields.Goals as goal

pub returns : goal.returns
unfolding fields_text
returns c =
    wrote_then (wrote_then (wrote_then (wrote_then (wrote_then (wrote_then c.put_padded-a.ensures c.put_padded-b.ensures) c.put_padded-c.ensures)
    c.put_spaces-d.ensures)
    c.put_result-e.ensures) c.put_note-f.ensures) c.put_byte.ensures
