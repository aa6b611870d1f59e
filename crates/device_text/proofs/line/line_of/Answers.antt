use mathlib.Core.Path.{◌∙◌}
use Rattle.device_text.specs.Words as Words
use Rattle.device_text.proofs.line.line_of.Goals as goal

pub returns : goal.returns
unfolding Words.line_of
returns c = c.line_at.ensures ∙ rw c.line_start.ensures
