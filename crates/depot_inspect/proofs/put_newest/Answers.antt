use Rattle.depot_inspect.proofs.PrintedLaws.{printed, newest-first, newest_second}
use Rattle.depot_inspect.proofs.put_newest.Goals as goal
use Rattle.depot_inspect.proofs.put_newest.Goals.{then-answer-eq0, else-answer-eq0}

pub returns : goal.returns
returns c =
    elim c.if-answer-eq0.branch [
      | then-answer-eq0 w ↦
          printed (newest-first _ _ _ c.pitvorgas_newer-answer.ensures _ w.if-answer-eq0.true (rw w.newest-is at c.pitvorgas_check.ensures)) c.put_newer.ensures
      | else-answer-eq0 w ↦
          printed (newest_second _ _ _ c.pitvorgas_newer-answer.ensures _ w.if-answer-eq0.false (rw w.newest-is at c.pitvorgas_check.ensures)) c.put_newer.ensures
    ]
