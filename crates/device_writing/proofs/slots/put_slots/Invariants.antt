use Rattle.text.specs.Text.{Wrote}
use Rattle.text_pieces.specs.Pieces.{lines}
use Rattle.device_writing.specs.Device.{slot_of}
use Rattle.device_writing.proofs.slots.put_slots.Given as goal

abbrev pub invariant-loop-k : goal.invariant-loop-k
invariant-loop-k l = Wrote (lines (slot_of l.slots) l.k) l.at l.initial.room l.to l.room
