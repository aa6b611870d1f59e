use lib.ListN.{get_or}
use Rattle.rules.specs.ProgramFormat.{entry_length_from, entry_size}
use Rattle.depot_argument_lines.specs.Arguments.{parameter_size}
use Rattle.depot_argument_lines.proofs.ItemLaws.{size-short, sized-zero}
use Rattle.depot_argument_lines.proofs.size_of.Goals as goal

pub returns-then-s-lt-ENTRY_BYTES-clause-size : goal.returns-then-s-lt-ENTRY_BYTES-clause-size
unfolding parameter_size
returns-then-s-lt-ENTRY_BYTES-clause-size c =
    sized-zero _ (size-short c.args.s.now entry_size (get_or c.args.s.now entry_length_from 0) c.if-s-lt-ENTRY_BYTES.true)

pub returns-clause-size : goal.returns-clause-size
unfolding parameter_size
returns-clause-size c = rw (← c.wide.ensures.0) c.size_in.ensures.size
