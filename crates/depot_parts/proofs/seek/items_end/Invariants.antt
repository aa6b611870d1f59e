use mathlib.Core.Path.{◌≡◌}
use Prim.Native.Nat.{◌-◌}
use Rattle.depot_parts.specs.Seek.{items_end}
use Rattle.depot_parts.proofs.seek.items_end.Given as goal

-- The invariant: the place after the items that are left is the place after all.
abbrev pub invariant-loop : goal.invariant-loop
invariant-loop l = items_end l.s (l.count - l.counter) l.e l.next ≡ items_end l.s l.count l.e l.at
