use Rattle.depot_identifiers.specs.Identifier.{parts_text}
use Rattle.depot_identifiers.proofs.IdentifierLaws.{Rest}
use Rattle.depot_identifiers.proofs.put_parts.Given as goal

abbrev pub invariant-loop-left : goal.invariant-loop-left
invariant-loop-left l = Rest (parts_text l.s l.n l.from) l.at l.initial.room (parts_text l.s l.left l.next) l.to l.room
