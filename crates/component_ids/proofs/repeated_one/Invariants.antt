use Prim.Native.Nat.{◌-◌}
use mathlib.Core.Path.{◌≡◌}
use Rattle.component_ids.specs.Identifiers.{among, search_from, repeated}
use Rattle.component_ids.proofs.repeated_one.Given as goal

abbrev pub invariant-loop-j : goal.invariant-loop-j
invariant-loop-j l = repeated l.s l.ids l.count ≡ search_from l.s l.ids l.j (l.count - l.j)

abbrev pub invariant-loop-i : goal.invariant-loop-i
invariant-loop-i l = among l.s l.ids l.j 0 l.j ≡ among l.s l.ids l.j l.i (l.j - l.i)
