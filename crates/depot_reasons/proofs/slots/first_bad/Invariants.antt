use mathlib.Core.Path.{◌≡◌}
use Prim.Native.Nat.{◌-◌}
use Rattle.depot_reasons.specs.First.{first}
use Rattle.depot_reasons.specs.BadSlots.{is_bad}
use Rattle.depot_reasons.proofs.slots.first_bad.Given as goal

abbrev pub invariant-loop-k : goal.invariant-loop-k
invariant-loop-k l = first (is_bad l.slots) l.n 0 ≡ first (is_bad l.slots) (l.n - l.k) l.k
