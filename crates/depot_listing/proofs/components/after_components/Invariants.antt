use Rattle.depot_listing.specs.Listing.{component_size}
use Rattle.depot_listing.proofs.ListingLaws.{Following}
use Rattle.depot_listing.proofs.components.after_components.Given as goal

abbrev pub invariant-loop : goal.invariant-loop
invariant-loop l = Following component_size l.count l.s l.counter l.rest
