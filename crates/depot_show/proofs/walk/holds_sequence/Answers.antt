use mathlib.Core.Path.{ap, ◌∙◌}
use Rattle.rules_kinds.specs.Kinds.{is_sequence}
use Rattle.depot_show.proofs.walk.holds_sequence.Goals as goal

pub returns : goal.returns
returns c = c.holds_sequence.ensures ∙ ap is_sequence c.argument_of.ensures
