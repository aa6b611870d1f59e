use Rattle.conformance_cases.specs.Cases.{run_slots}
use Rattle.rules.proofs.BytesLaws.{part-rest}
use Rattle.conformance_cases.proofs.run_slots.Goals as goal

pub returns-in_default : goal.returns-in_default
unfolding run_slots
returns-in_default c = rw (← c.in_default.ensures.end) c.put_malformed.ensures

pub returns : goal.returns
unfolding run_slots
returns c =
    rw (← c.in-Some.ensures.end) (rw (part-rest c.args.b.now c.in-Some.end) at c.run_answers.ensures)
