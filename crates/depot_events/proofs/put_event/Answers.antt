use Rattle.text.proofs.TextLaws.{wrote_then}
use Rattle.depot_events.specs.Events.{event_text}
use Rattle.depot_events.proofs.put_event.Goals as goal

pub returns : goal.returns
unfolding event_text
returns c =
    rw (
      ← c.wide-code.ensures.0,
      ← c.wide-component.ensures.0,
      ← c.two-place.ensures.0,
      ← c.wide-result.ensures.0,
      ← c.note_at.ensures,
    )
    (wrote_then (wrote_then (wrote_then c.put_padded-a.ensures c.put_spaces-b.ensures) c.put_command_wide-c.ensures) c.put_fields.ensures)
