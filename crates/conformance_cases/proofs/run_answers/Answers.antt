use Rattle.conformance_cases.specs.Cases.{run_answers}
use Rattle.rules.proofs.BytesLaws.{part-rest}
use Rattle.conformance_cases.proofs.run_answers.Goals as goal

pub returns-in_default : goal.returns-in_default
unfolding run_answers
returns-in_default c = rw (← c.in_default.ensures.end) c.put_malformed.ensures

pub returns : goal.returns
unfolding run_answers
returns c =
    rw (← c.in-Some.ensures.end) (rw (part-rest c.args.b.now c.in-Some.end) at c.run_line.ensures)
