use lib.ListN.{get_or}
use Rattle.rules.specs.ProgramFormat.{length_from, name_size}
use Rattle.depot_listing.specs.Listing.{component_size}
use Rattle.depot_argument_lines.proofs.ItemLaws.{size-short, sized-zero}
use Rattle.depot_listing.proofs.components.size_of.Goals as goal

pub returns-then-s-lt-NAME_BYTES-clause-size : goal.returns-then-s-lt-NAME_BYTES-clause-size
unfolding component_size
returns-then-s-lt-NAME_BYTES-clause-size c =
    sized-zero _ (size-short c.args.s.now name_size (get_or c.args.s.now length_from 0) c.if-s-lt-NAME_BYTES.true)

pub returns-clause-size : goal.returns-clause-size
unfolding component_size
returns-clause-size c = rw (← c.wide.ensures.0) c.size_in.ensures.size
