use Rattle.text.proofs.TextLaws.{wrote_then}
use Rattle.depot_show.specs.Manifest.{parts_text}
use Rattle.depot_show.proofs.put_parts.Goals as goal

pub returns : goal.returns
unfolding parts_text
returns c =
    rw (← c.least.ensures) (wrote_then (wrote_then (wrote_then (wrote_then c.put_labelled-a.ensures c.put_byte-b.ensures)
    c.put_components-c.ensures) c.put_sections-d.ensures) c.put_groups.ensures)
