use Rattle.text.proofs.TextLaws.{wrote_then}
use Rattle.depot_refusals.specs.Refusals.{path_line}
use Rattle.depot_refusals.proofs.put_path_line.Goals as goal

pub returns : goal.returns
unfolding path_line
returns c =
    wrote_then (wrote_then c.put-a.ensures c.put_path-b.ensures) c.put_byte.ensures
