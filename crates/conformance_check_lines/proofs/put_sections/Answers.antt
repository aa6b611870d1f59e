use Rattle.conformance_check_lines.specs.CheckLines.{sections_text}
use Rattle.conformance_check_lines.proofs.put_sections.Goals as goal

pub least-requires : goal.least-requires
least-requires c = tt

pub least-requires-2 : goal.least-requires-2
least-requires-2 c = tt

pub least-requires-3 : goal.least-requires-3
least-requires-3 c = tt

pub least-requires-4 : goal.least-requires-4
least-requires-4 c = tt

pub least-requires-5 : goal.least-requires-5
least-requires-5 c = tt

pub returns : goal.returns
unfolding sections_text
returns c =
    rw (c.least.ensures, c.least-2.ensures, c.least-3.ensures, c.least-4.ensures, c.least-5.ensures) at c.put_format.ensures
