use mathlib.Core.Path.{◌∙◌}
use Rattle.rules.specs.ProgramTest.{program_in}
use Rattle.pitvorgas.proofs.AnswerLaws.{tested-answer}
use Rattle.pitvorgas.proofs.pitvorgas_test_program.Goals as goal

pub returns : goal.returns
returns c = c.is_some.ensures ∙ tested-answer c.args.program.now (program_in c.args.program.now) _ c.test_program.ensures
