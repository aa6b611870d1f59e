use Rattle.conformance_lines.specs.Lines.{newer_text}
use Rattle.conformance_lines.proofs.put_newer.Goals as goal

pub returns : goal.returns
unfolding newer_text
returns c =
    c.put_format.ensures
