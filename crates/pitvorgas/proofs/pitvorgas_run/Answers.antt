use Rattle.rules.specs.Run.{run_envelope}
use Rattle.run_ending.specs.Answer.{input_of}
use Rattle.pitvorgas_answers.specs.Inputs.{controller_of, group_of}
use Rattle.pitvorgas.proofs.AnswerLaws.{ran-answer}
use Rattle.pitvorgas.proofs.pitvorgas_run.Goals as goal

pub returns : goal.returns
returns c =
    let d = controller_of c.args.device in
    let g = run_envelope c.args.envelope.now (group_of c.args.boot) (input_of c.args.verdict d c.args.slots.now c.args.answers.now c.args.trace.now) in
    let s = rw (c.controller_of.ensures, c.group_of.ensures) at c.run-o.ensures in
    (ran-answer d g _ _ s.0 c.answer_of.ensures, s.1, s.2)
