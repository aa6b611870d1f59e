use Rattle.conformance_cases.specs.Cases.{newer_case}
use Rattle.rules.proofs.BytesLaws.{part-rest}
use Rattle.conformance_cases.proofs.newer_case.Goals as goal

pub returns-in_default : goal.returns-in_default
unfolding newer_case
returns-in_default c = rw (← c.in_default.ensures.end) c.put_malformed.ensures

pub returns : goal.returns
unfolding newer_case
returns c =
    rw (← c.in-Some.ensures.end) (rw (part-rest c.args.b.now c.in-Some.end) at c.newer_line.ensures)
