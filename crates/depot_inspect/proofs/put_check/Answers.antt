use mathlib.Core.Path.{ap}
use Rattle.pitvorgas_answers.specs.declared.CheckAnswer.{CheckAnswer}
use Rattle.depot_report.specs.Report.{checked_text}
use Rattle.depot_inspect.proofs.PrintedLaws.{printed}
use Rattle.depot_inspect.proofs.put_check.Goals as goal

pub returns : goal.returns
returns c =
    printed (ap (λ (a : CheckAnswer). checked_text a c.args.envelope.now) c.pitvorgas_check.ensures) c.put_checked.ensures
