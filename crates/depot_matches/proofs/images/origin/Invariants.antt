use mathlib.Core.Path.{◌≡◌}
use Rattle.depot_matches.specs.Images.{origin}
use Rattle.depot_matches.proofs.images.origin.Given as goal

abbrev pub invariant-loop-i : goal.invariant-loop-i
invariant-loop-i l = origin l.p l.trace l.from l.i ≡ origin l.p l.trace l.c l.n
