use Rattle.depot_record_lines.specs.Lines.{record_size, record_text, missing_text}
use Rattle.depot_argument_lines.proofs.ItemLaws.{Going}
use Rattle.depot_record_lines.proofs.put_records.Given as goal

abbrev pub invariant-loop-n : goal.invariant-loop-n
invariant-loop-n l = Going record_size (record_text l.total) missing_text l.total l.s l.at l.initial.room l.n l.rest l.to l.room
