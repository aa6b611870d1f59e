use mathlib.Core.Path.{sym, ◌∙◌}
use Rattle.depot_record_lines.specs.Lines.{failure_text}
use Rattle.text.proofs.TextLaws.{wrote_then}
use Rattle.depot_record_lines.proofs.put_failure.Goals as goal

pub returns-then-condition_of : goal.returns-then-condition_of
unfolding failure_text
returns-then-condition_of c =
    rw (sym c.condition_of.ensures ∙ c.if-condition_of.true) (wrote_then (wrote_then c.put-a.ensures c.put_target-b.ensures) c.put.ensures)

pub returns : goal.returns
unfolding failure_text
returns c =
    rw (sym c.condition_of.ensures ∙ c.if-condition_of.false) c.put-2.ensures
