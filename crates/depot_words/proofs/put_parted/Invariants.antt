use mathlib.Core.List.{map}
use lib.ListN.{take}
use Rattle.text.specs.Text.{Wrote}
use Rattle.depot_words.specs.CommandLine.{parted}
use Rattle.depot_words.proofs.put_parted.Given as goal

-- The invariant: the bytes passed were written.
abbrev pub invariant-loop-b : goal.invariant-loop-b
invariant-loop-b l = Wrote (map parted (take l.b-index l.line)) l.at l.initial.room l.to l.room
