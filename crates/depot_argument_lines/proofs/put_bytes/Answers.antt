use mathlib.Core.Path.{sym, ◌∙◌}
use Rattle.depot_argument_lines.specs.Arguments.{hex_text}
use Rattle.text.proofs.TextLaws.{wrote_none, wrote_then}
use Rattle.depot_argument_lines.proofs.put_bytes.Goals as goal

pub returns-then-is_empty : goal.returns-then-is_empty
unfolding hex_text
returns-then-is_empty c = rw (sym c.is_empty.ensures ∙ c.if-is_empty.true) (wrote_none _ _)

pub returns : goal.returns
unfolding hex_text
returns c =
    rw (sym c.is_empty.ensures ∙ c.if-is_empty.false) (wrote_then (wrote_then c.put_spaces-a.ensures c.put_hex-b.ensures) c.put.ensures)
