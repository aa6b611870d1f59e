use mathlib.Core.Path.{sym, ap, ◌∙◌}
use Rattle.rules.specs.declared.tables.Argument.{Argument}
use Rattle.translate_size.specs.Size.{argument_size}
use Rattle.translate_size.proofs.sizes.argument_size.Goals as goal

pub parameters_size-requires : goal.parameters_size-requires
parameters_size-requires c = rw c.in-Parameters.is at c.requires

pub returns-in-Parameters : goal.returns-in-Parameters
returns-in-Parameters c = c.parameters_size.ensures ∙ ap (λ (k : Argument). argument_size k c.args.a) (sym c.in-Parameters.is)
