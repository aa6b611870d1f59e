use lib.ListN.{take}
use Rattle.text.specs.Text.{Wrote}
use Rattle.text_pieces.specs.Pieces.{spaced}
use Rattle.text_pieces.proofs.put_each.Given as goal

abbrev pub invariant-loop-b : goal.invariant-loop-b
invariant-loop-b l = Wrote (spaced (take l.b-index l.s)) l.at l.initial.room l.to l.room
