use mathlib.Core.Path.{sym, ap, ◌∙◌}
use mathlib.Core.Bool.{not}
use Rattle.depot_identifiers.specs.Identifier.{prints}
use Rattle.depot_identifiers.proofs.prints_whole.Goals as goal

pub returns-then-not-is_empty : goal.returns-then-not-is_empty
unfolding prints
returns-then-not-is_empty c = rw (sym c.is_empty.ensures ∙ c.if-not-is_empty.true) c.all_print.ensures

pub returns-else-not-is_empty : goal.returns-else-not-is_empty
unfolding prints
returns-else-not-is_empty c = rw (sym c.is_empty.ensures ∙ c.if-not-is_empty.false) (ap not c.if-not-is_empty.false)
