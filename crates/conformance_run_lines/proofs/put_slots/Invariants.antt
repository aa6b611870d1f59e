use Prim.Native.Nat.{◌-◌, ◌≤◌}
use Rattle.text.specs.Text.{Wrote}
use Rattle.conformance_run_lines.specs.Lines.{slots_text}
use Rattle.conformance_run_lines.proofs.put_slots.Given as goal

abbrev pub invariant-loop-k : goal.invariant-loop-k
invariant-loop-k l = Wrote (slots_text l.slots l.k) l.at l.initial.room l.to l.room
