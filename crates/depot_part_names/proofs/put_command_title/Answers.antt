use Rattle.text.proofs.TextLaws.{wrote_then}
use Rattle.depot_part_names.specs.Names.{command_title}
use Rattle.depot_part_names.proofs.put_command_title.Goals as goal

pub returns : goal.returns
unfolding command_title
returns c =
    wrote_then (wrote_then (wrote_then c.put_labelled-a.ensures c.put-b.ensures) c.put_command-c.ensures) c.put.ensures
