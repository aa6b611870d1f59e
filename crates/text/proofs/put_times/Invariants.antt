use lib.ListN.{replicate}
use Rattle.text.specs.Text.{Wrote}
use Rattle.text.proofs.put_times.Given as goal

abbrev pub invariant-loop : goal.invariant-loop
invariant-loop l = Wrote (replicate l.counter l.b) l.at l.initial.room l.to l.room
