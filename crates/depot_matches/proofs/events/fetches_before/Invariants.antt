use Prim.Native.Nat.{◌≤◌}
use mathlib.Core.Path.{◌≡◌}
use Rattle.depot_matches.specs.Events.{fetches_before}
use Rattle.depot_matches.proofs.events.fetches_before.Given as goal

abbrev pub invariant-loop-i : goal.invariant-loop-i
invariant-loop-i l = (l.count ≡ fetches_before l.trace l.i) × (l.count ≤ l.i)
