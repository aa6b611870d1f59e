use mathlib.Core.Path.{◌≡◌}
use Prim.Native.Nat.{◌-◌}
use Rattle.depot_identifiers.specs.Identifier.{one_prints}
use Rattle.depot_identifiers.proofs.one_prints.Given as goal

abbrev pub invariant-loop : goal.invariant-loop
invariant-loop l = one_prints l.s l.n l.from ≡ one_prints l.s (l.n - l.counter) l.next
