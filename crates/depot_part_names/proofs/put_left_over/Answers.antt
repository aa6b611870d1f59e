use Rattle.text.proofs.TextLaws.{wrote_then}
use Rattle.depot_part_names.specs.Names.{left_over}
use Rattle.depot_part_names.proofs.put_left_over.Goals as goal

pub returns : goal.returns
unfolding left_over
returns c =
    wrote_then c.put_name-a.ensures c.put.ensures
