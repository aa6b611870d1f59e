use Rattle.text.proofs.TextLaws.{wrote_then}
use Rattle.conformance_lent.specs.Lent.{ran_line}
use Rattle.conformance_lent.proofs.put_run.Goals as goal

pub returns : goal.returns
unfolding ran_line
returns c =
    wrote_then c.put_ran-a.ensures (rw c.kept_all-kept.ensures at c.put_altered.ensures)
