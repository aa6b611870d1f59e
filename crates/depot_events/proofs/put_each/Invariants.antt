use Rattle.text.specs.Text.{Wrote}
use Rattle.text_pieces.specs.Pieces.{lines}
use Rattle.depot_events.specs.Events.{event_text}
use Rattle.depot_events.proofs.put_each.Given as goal

abbrev pub invariant-loop-k : goal.invariant-loop-k
invariant-loop-k l = Wrote (lines (event_text l.trace l.notes) l.k) l.at l.initial.room l.to l.room
