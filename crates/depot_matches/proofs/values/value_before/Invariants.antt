use mathlib.Core.Path.{◌≡◌}
use Rattle.depot_matches.specs.Values.{value_before}
use Rattle.depot_matches.proofs.values.value_before.Given as goal

abbrev pub invariant-loop-i : goal.invariant-loop-i
invariant-loop-i l = l.v ≡ value_before l.p l.trace l.key l.c l.i
