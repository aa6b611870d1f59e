use mathlib.Core.Path.{◌≡◌}
use Prim.Native.Nat.{◌-◌}
use Rattle.depot_reasons.specs.First.{first}
use Rattle.depot_reasons.specs.Reasons.{has_no_slot}
use Rattle.depot_reasons.proofs.first_without.Given as goal

abbrev pub invariant-loop-k : goal.invariant-loop-k
invariant-loop-k l = first (has_no_slot l.s l.ids l.slots) l.n 0 ≡ first (has_no_slot l.s l.ids l.slots) (l.n - l.k) l.k
