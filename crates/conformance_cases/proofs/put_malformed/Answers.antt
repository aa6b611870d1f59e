use Rattle.conformance_cases.specs.Cases.{malformed_text}
use Rattle.conformance_cases.proofs.put_malformed.Goals as goal

pub returns : goal.returns
unfolding malformed_text
returns c =
    c.put.ensures
