use mathlib.Core.Path.{◌∙◌}
use Rattle.check_argument.proofs.ArgumentLaws.{number-reading}
use Rattle.check_argument.proofs.number.Goals as goal

pub returns : goal.returns
returns c = c.item.ensures ∙ number-reading _ _ _
