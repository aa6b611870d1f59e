use mathlib.Core.Path.{◌≡◌}
use lib.ListN.{length}
use Rattle.rules.specs.Limits.{places}
use Rattle.component_ids.proofs.IdentifierLaws.{Sofar}
use Rattle.component_ids.proofs.identifiers.Given as goal

abbrev pub invariant-loop-k : goal.invariant-loop-k
invariant-loop-k l = (length l.initial.places ≡ places) × (length l.places ≡ places) × Sofar l.s l.count l.end l.at l.k l.p l.initial.places l.places
