use Rattle.depot_record_lines.specs.Lines.{record_size}
use Rattle.depot_matches.specs.Values.{record_is, argument_in}
use Rattle.depot_matches.proofs.FindLaws.{Seeking}
use Rattle.depot_matches.proofs.values.argument_among.Given as goal

abbrev pub invariant-loop : goal.invariant-loop
invariant-loop l = Seeking record_size (record_is l.e) argument_in l.total l.s l.counter l.rest
