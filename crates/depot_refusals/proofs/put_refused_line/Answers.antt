use Rattle.text.proofs.TextLaws.{wrote_then}
use Rattle.depot_refusals.specs.Refusals.{refused_line}
use Rattle.depot_refusals.proofs.put_refused_line.Goals as goal

pub returns : goal.returns
unfolding refused_line
returns c =
    wrote_then (wrote_then (wrote_then (wrote_then c.put_labelled-a.ensures c.put_labelled-b.ensures) c.put-c.ensures) c.put_refusal-d.ensures) c.put_byte.ensures
