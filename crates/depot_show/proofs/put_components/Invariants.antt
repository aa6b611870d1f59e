use Rattle.text.specs.Text.{Wrote}
use Rattle.depot_show.specs.Manifest.{components_text}
use Rattle.depot_show.proofs.put_components.Given as goal

-- The invariant: the components passed were written.
abbrev pub invariant-loop-k : goal.invariant-loop-k
invariant-loop-k l = Wrote (components_text l.s l.ids l.k) l.at l.initial.room l.to l.room
