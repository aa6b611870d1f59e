use Rattle.depot_inspect.proofs.PrintedLaws.{printed, shown-refused, shown_parts}
use Rattle.depot_inspect.proofs.put_shown.Goals as goal

pub returns-then-answer-ne0 : goal.returns-then-answer-ne0
returns-then-answer-ne0 c =
    printed (shown-refused _ _ c.pitvorgas_check-answer.ensures c.if-answer-ne0.true) c.put_refused.ensures

pub returns : goal.returns
returns c =
    printed (shown_parts _ _ c.pitvorgas_check-answer.ensures c.if-answer-ne0.false) c.put_parts.ensures
