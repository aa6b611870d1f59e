use mathlib.Core.Path.{◌≡◌}
use lib.ListN.{length}
use Rattle.rules.specs.Limits as Limits
use Rattle.program_names.proofs.NameLaws.{Sofar}
use Rattle.program_names.proofs.test_names.Given as goal

abbrev pub invariant-loop-k : goal.invariant-loop-k
invariant-loop-k l = (length l.ids ≡ Limits.places) × Sofar l.p l.at l.n l.ids l.next l.k
