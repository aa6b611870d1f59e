use Rattle.text.proofs.TextLaws.{wrote_then}
use Rattle.depot_outcome.specs.Outcome.{end_text}
use Rattle.depot_outcome.proofs.put_end.Goals as goal

pub returns : goal.returns
unfolding end_text
returns c =
    wrote_then (wrote_then (wrote_then c.put_labelled-a.ensures c.put-b.ensures) c.put_end-c.ensures) c.put_labelled.ensures
