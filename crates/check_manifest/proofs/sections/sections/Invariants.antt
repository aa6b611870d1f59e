use Prim.Native.Nat.{◌-◌, ◌≤◌}
use Rattle.rules.specs.Commands.{PAYLOAD_FETCH}
use Rattle.rules.specs.Check.{sections_at}
use Rattle.check_manifest.proofs.SectionLaws.{Left}
use Rattle.check_manifest.proofs.sections.sections.Given as goal

abbrev pub invariant-loop : goal.invariant-loop
invariant-loop l =
    (PAYLOAD_FETCH ≤ l.low)
    × Left l.commands l.so_far (sections_at l.s l.components l.k PAYLOAD_FETCH l.commands l.end l.at)
    (sections_at l.s l.components (l.k - l.counter) l.low l.so_far l.end l.p) l.initial.places l.places
