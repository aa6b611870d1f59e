use Rattle.text.proofs.TextLaws.{wrote_then}
use Rattle.depot_outcome.specs.Outcome.{ran_text}
use Rattle.depot_outcome.proofs.put_ran.Goals as goal

pub returns : goal.returns
unfolding ran_text
returns c =
    wrote_then (wrote_then (wrote_then c.put_end-a.ensures c.put_counts-b.ensures) c.put_labelled-c.ensures) c.put_byte.ensures
