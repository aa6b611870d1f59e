use Prim.Native.Nat.{◌-◌, ◌≤◌}
use Rattle.text.specs.Text.{Wrote}
use Rattle.text_pieces.specs.Pieces.{lines}
use Rattle.conformance_check_lines.specs.CheckLines.{place_text}
use Rattle.conformance_check_lines.proofs.put_places.Given as goal

abbrev pub invariant-loop-k : goal.invariant-loop-k
invariant-loop-k l = Wrote (lines (place_text l.ids) l.k) l.at l.initial.room l.to l.room
