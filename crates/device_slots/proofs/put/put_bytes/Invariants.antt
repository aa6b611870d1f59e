use Rattle.text.specs.Text.{Wrote}
use Rattle.device_text.specs.Words as Words
use Rattle.device_slots.proofs.put.put_bytes.Given as goal

abbrev pub invariant-loop-i : goal.invariant-loop-i
invariant-loop-i l = Wrote (Words.unhex l.i l.w) l.at l.initial.room l.to l.room
