use lib.ListN.{take}
use Rattle.text.specs.Text.{Wrote}
use Rattle.text_escaped.specs.Escaped.{escaped}
use Rattle.text_escaped.proofs.put_escaped.Given as goal

abbrev pub invariant-loop-b : goal.invariant-loop-b
invariant-loop-b l = Wrote (escaped (take l.b-index l.s)) l.at l.initial.room l.to l.room
