use Prim.Native.Nat.{◌-◌}
use mathlib.Core.Path.{◌≡◌}
use Rattle.rules.specs.Check.{strings}
use Rattle.component_ids.proofs.strings.Given as goal

abbrev pub invariant-loop : goal.invariant-loop
invariant-loop l = strings l.s l.count l.end l.at ≡ strings l.s (l.count - l.counter) l.end l.p
