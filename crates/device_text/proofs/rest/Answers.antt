use mathlib.Core.Path.{◌∙◌}
use Rattle.rules.proofs.BytesLaws.{part-rest}
use Rattle.device_text.specs.Words as Words
use Rattle.device_text.proofs.rest.Goals as goal

pub returns : goal.returns
unfolding Words.rest
returns c = c.skip.ensures ∙ rw (part-rest _ _, c.first_blank-n.ensures.0)
