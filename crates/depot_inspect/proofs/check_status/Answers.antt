use mathlib.Core.Path.{◌∙◌, ap}
use Rattle.pitvorgas_answers.specs.declared.CheckAnswer.{CheckAnswer}
use Rattle.depot_status.specs.Status.{refusal_status}
use Rattle.depot_inspect.proofs.check_status.Goals as goal

pub returns : goal.returns
returns c = c.refusal_status.ensures ∙ ap (λ (a : CheckAnswer). refusal_status a.refusal) c.pitvorgas_check.ensures
