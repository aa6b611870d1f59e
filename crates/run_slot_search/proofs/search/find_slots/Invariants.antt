use Rattle.run_slot_search.proofs.SearchLaws.{Sofar}
use Rattle.run_slot_search.proofs.search.find_slots.Given as goal

abbrev pub invariant-loop-i : goal.invariant-loop-i
invariant-loop-i l = Sofar l.s l.ids l.n l.slots l.initial.memory l.memory l.i
