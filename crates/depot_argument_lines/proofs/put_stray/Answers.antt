use mathlib.Core.Path.{sym, ◌∙◌}
use Rattle.depot_argument_lines.specs.Arguments.{stray_text}
use Rattle.text.proofs.TextLaws.{wrote_none}
use Rattle.depot_argument_lines.proofs.put_stray.Goals as goal

pub returns-then-is_empty : goal.returns-then-is_empty
unfolding stray_text
returns-then-is_empty c = rw (sym c.is_empty.ensures ∙ c.if-is_empty.true) (wrote_none _ _)

pub returns : goal.returns
unfolding stray_text
returns c = rw (sym c.is_empty.ensures ∙ c.if-is_empty.false) c.put.ensures
