use Rattle.program_records.proofs.RecordsLaws.{Sofar}
use Rattle.program_records.proofs.test_records.Given as goal

abbrev pub invariant-loop-n : goal.invariant-loop-n
invariant-loop-n l = Sofar l.group l.components l.total l.p l.at l.next l.jumps l.n
