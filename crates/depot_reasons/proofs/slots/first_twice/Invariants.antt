use mathlib.Core.Path.{◌≡◌}
use Prim.Native.Nat.{◌-◌}
use Rattle.depot_reasons.specs.First.{first}
use Rattle.depot_reasons.specs.BadSlots.{is_twice}
use Rattle.depot_reasons.proofs.slots.first_twice.Given as goal

abbrev pub invariant-loop-i : goal.invariant-loop-i
invariant-loop-i l = first (is_twice l.slots l.n) l.n 0 ≡ first (is_twice l.slots l.n) (l.n - l.i) l.i
