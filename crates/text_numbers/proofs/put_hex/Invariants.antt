use lib.ListN.{take}
use Rattle.text.specs.Text.{Wrote, hex}
use Rattle.text_numbers.proofs.put_hex.Given as goal

abbrev pub invariant-loop-b : goal.invariant-loop-b
invariant-loop-b l = Wrote (hex (take l.b-index l.s)) l.at l.initial.room l.to l.room
