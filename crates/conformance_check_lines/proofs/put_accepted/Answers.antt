use Rattle.text.proofs.TextLaws.{wrote_then}
use Rattle.conformance_check_lines.specs.CheckLines.{accepted_text}
use Rattle.conformance_check_lines.proofs.put_accepted.Goals as goal

pub put_places-b-requires : goal.put_places-b-requires
put_places-b-requires c = tt

pub put_sections-requires : goal.put_sections-requires
put_sections-requires c = tt

pub returns : goal.returns
unfolding accepted_text
returns c =
    wrote_then (wrote_then c.put_format-a.ensures c.put_places-b.ensures) c.put_sections.ensures
