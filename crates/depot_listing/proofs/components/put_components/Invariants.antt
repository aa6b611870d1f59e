use Rattle.depot_listing.specs.Listing.{component_size, component_text}
use Rattle.depot_record_lines.specs.Lines.{missing_text}
use Rattle.depot_argument_lines.proofs.ItemLaws.{Going}
use Rattle.depot_listing.proofs.components.put_components.Given as goal

abbrev pub invariant-loop-n : goal.invariant-loop-n
invariant-loop-n l = Going component_size component_text missing_text l.count l.s l.at l.initial.room l.n l.rest l.to l.room
