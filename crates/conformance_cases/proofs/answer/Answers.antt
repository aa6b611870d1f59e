use mathlib.Core.Path.{sym, ◌∙◌}
use Rattle.rules.proofs.BytesLaws.{part-rest}
use Rattle.conformance_cases.specs.Cases.{line_of}
use Rattle.conformance_cases.proofs.answer.Goals as goal

pub returns-then-is_empty : goal.returns-then-is_empty
unfolding line_of
returns-then-is_empty c = rw (sym c.is_empty.ensures ∙ c.if-is_empty.true) c.put_malformed.ensures

pub returns : goal.returns
unfolding line_of
returns c =
    rw (sym c.is_empty.ensures ∙ c.if-is_empty.false) (rw (part-rest c.args.case.now 1) at c.job_line.ensures)
