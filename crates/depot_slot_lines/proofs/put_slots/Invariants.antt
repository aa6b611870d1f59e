use Rattle.text.specs.Text.{Wrote}
use Rattle.text_pieces.specs.Pieces.{lines}
use Rattle.depot_slot_lines.specs.SlotLines.{owned_text}
use Rattle.depot_slot_lines.proofs.put_slots.Given as goal

abbrev pub invariant-loop-k : goal.invariant-loop-k
invariant-loop-k l = Wrote (lines (owned_text l.slots l.s l.ids l.n) l.k) l.at l.initial.room l.to l.room
