use Rattle.text.proofs.TextLaws.{wrote_then}
use Rattle.depot_events.specs.Events.{events_text}
use Rattle.depot_events.proofs.put_events.Goals as goal

pub returns : goal.returns
unfolding events_text
returns c =
    rw (← c.least-n.ensures) (wrote_then c.put-to.ensures c.put_each.ensures)
