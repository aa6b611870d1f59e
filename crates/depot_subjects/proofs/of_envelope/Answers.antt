use mathlib.Core.Path.{ap}
use Rattle.depot_subjects.specs.Subject.{of_checked}
use Rattle.depot_subjects.proofs.of_envelope.Goals as goal

pub returns : goal.returns
returns c =
    ap (of_checked c.args.boot) c.pitvorgas_check-a.ensures
