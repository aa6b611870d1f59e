use Rattle.text.proofs.TextLaws.{wrote_then}
use Rattle.depot_part_names.specs.Names.{parameter_title}
use Rattle.depot_part_names.proofs.put_parameter_title.Goals as goal

pub returns : goal.returns
unfolding parameter_title
returns c =
    wrote_then c.put-a.ensures c.put_parameter.ensures
