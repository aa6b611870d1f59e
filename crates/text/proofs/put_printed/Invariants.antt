use mathlib.Core.List.{map}
use lib.ListN.{take}
use Rattle.text.specs.Text.{Wrote, printable}
use Rattle.text.proofs.put_printed.Given as goal

-- The invariant: the bytes passed were written.
abbrev pub invariant-loop-b : goal.invariant-loop-b
invariant-loop-b l = Wrote (map printable (take l.b-index l.s)) l.at l.initial.room l.to l.room
