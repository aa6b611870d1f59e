use Rattle.text.proofs.TextLaws.{wrote_then}
use Rattle.conformance_run_lines.specs.Lines.{end_text}
use Rattle.conformance_run_lines.proofs.put_end.Goals as goal

pub returns : goal.returns
unfolding end_text
returns c =
    wrote_then (wrote_then c.put_format-a.ensures c.put_slots-b.ensures) c.put_events.ensures
