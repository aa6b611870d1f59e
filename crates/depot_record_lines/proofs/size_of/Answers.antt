use Rattle.rules.specs.ProgramFormat.{argument_from}
use Rattle.rules.specs.ProgramFormat.{record_size as ProgramFormat·recordSize}
use Rattle.rules.specs.Bytes.{two_at}
use Rattle.depot_record_lines.specs.Lines.{record_size}
use Rattle.depot_argument_lines.proofs.ItemLaws.{size-short, sized-zero}
use Rattle.depot_record_lines.proofs.size_of.Goals as goal

pub returns-then-s-lt-RECORD_BYTES-clause-size : goal.returns-then-s-lt-RECORD_BYTES-clause-size
unfolding record_size
returns-then-s-lt-RECORD_BYTES-clause-size c =
    sized-zero _ (size-short c.args.s.now ProgramFormat·recordSize (two_at c.args.s.now argument_from) c.if-s-lt-RECORD_BYTES.true)

pub returns-clause-size : goal.returns-clause-size
unfolding record_size
returns-clause-size c = rw (← c.two.ensures.0) c.size_in.ensures.size
