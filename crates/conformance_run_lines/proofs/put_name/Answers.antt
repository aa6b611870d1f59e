use Rattle.text.proofs.TextLaws.{wrote_then}
use Rattle.conformance_run_lines.specs.Lines.{name_text}
use Rattle.conformance_run_lines.proofs.LineLaws.{name-part}
use Rattle.conformance_run_lines.proofs.put_name.Goals as goal

pub returns : goal.returns
unfolding name_text
returns c =
    wrote_then c.put_separator-a.ensures (rw (name-part _ _ _ _ c.wide.ensures.0 c.least.ensures) at c.put_bytes.ensures)
