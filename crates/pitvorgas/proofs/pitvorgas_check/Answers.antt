use Rattle.rules.specs.Check.{check}
use Rattle.pitvorgas.proofs.AnswerLaws.{checked-answer}
use Rattle.pitvorgas.proofs.pitvorgas_check.Goals as goal

pub returns : goal.returns
returns c = checked-answer (check c.args.envelope.now) _ _ c.check.ensures.0 c.answer_of.ensures
