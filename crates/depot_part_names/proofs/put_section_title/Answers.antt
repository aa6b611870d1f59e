use Rattle.text.proofs.TextLaws.{wrote_then}
use Rattle.depot_part_names.specs.Names.{section_title}
use Rattle.depot_part_names.proofs.put_section_title.Goals as goal

pub returns : goal.returns
unfolding section_title
returns c =
    wrote_then (wrote_then (wrote_then c.put_labelled-a.ensures c.put-b.ensures) c.put_section-c.ensures) c.put.ensures
