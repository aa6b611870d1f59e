use mathlib.Core.Path.{sym, ◌∙◌}
use Rattle.depot_argument_lines.specs.Arguments.{argument_text}
use Rattle.depot_argument_lines.proofs.put_argument.Goals as goal

pub returns-then-lists_parameters : goal.returns-then-lists_parameters
unfolding argument_text
returns-then-lists_parameters c =
    rw (sym c.lists_parameters.ensures ∙ c.if-lists_parameters.true) c.put_parameters.ensures

pub returns : goal.returns
unfolding argument_text
returns c =
    rw (sym c.lists_parameters.ensures ∙ c.if-lists_parameters.false) c.put_bytes.ensures
