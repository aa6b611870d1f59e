use Rattle.text.proofs.TextLaws.{wrote_then}
use Rattle.conformance_run_lines.specs.Lines.{image_text}
use Rattle.conformance_run_lines.proofs.LineLaws.{digest-part}
use Rattle.conformance_run_lines.proofs.put_image.Goals as goal

pub returns : goal.returns
unfolding image_text
returns c =
    wrote_then (rw (c.capacity.ensures, c.wide.ensures.0, c.size.ensures) at c.put_format-a.ensures) (rw (digest-part _ _) at c.put_hex.ensures)
