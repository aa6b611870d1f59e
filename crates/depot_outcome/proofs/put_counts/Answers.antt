use Rattle.text.proofs.TextLaws.{wrote_then}
use Rattle.depot_outcome.specs.Outcome.{counts_text}
use Rattle.depot_outcome.proofs.put_counts.Goals as goal

pub returns : goal.returns
unfolding counts_text
returns c =
    wrote_then c.put_counted-a.ensures c.put_counted.ensures
