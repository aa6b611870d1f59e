use Rattle.text.proofs.TextLaws.{wrote_then}
use Rattle.depot_outcome.specs.Outcome.{stopped_text}
use Rattle.depot_outcome.proofs.put_stopped.Goals as goal

pub returns : goal.returns
unfolding stopped_text
returns c =
    wrote_then c.put_refused-a.ensures c.put_reason.ensures
