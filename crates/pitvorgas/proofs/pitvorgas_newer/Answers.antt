use Rattle.rules.specs.Newer.{newer}
use Rattle.pitvorgas.proofs.AnswerLaws.{in_first-answer, in_second-answer}
use Rattle.pitvorgas.proofs.pitvorgas_newer.Goals as goal

pub returns-in-First : goal.returns-in-First
returns-in-First c = in_first-answer (newer c.args.first.now c.args.second.now) _ c.in-First.ensures

pub returns-in-Second : goal.returns-in-Second
returns-in-Second c = in_second-answer (newer c.args.first.now c.args.second.now) _ c.in-Second.ensures
