use Rattle.conformance_format.specs.Format.{refused_text}
use Rattle.conformance_format.proofs.put_refused.Goals as goal

pub returns : goal.returns
unfolding refused_text
returns c =
    c.put_format.ensures
