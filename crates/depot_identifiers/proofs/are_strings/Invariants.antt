use mathlib.Core.Path.{◌≡◌}
use Prim.Native.Nat.{◌-◌}
use Rattle.depot_identifiers.specs.Identifier.{strings}
use Rattle.depot_identifiers.proofs.are_strings.Given as goal

abbrev pub invariant-loop : goal.invariant-loop
invariant-loop l = strings l.s l.n l.from ≡ strings l.s (l.n - l.counter) l.next
