use Rattle.rules.specs.ProgramTest.{program_in}
use Rattle.depot_subjects.proofs.SubjectLaws.{none_subject, tested_subject}
use Rattle.depot_subjects.proofs.of_program.Goals as goal

pub returns-in_default : goal.returns-in_default
returns-in_default c = none_subject _ (program_in c.args.program.now) c.in_default.ensures

pub returns : goal.returns
returns c =
    rw c.is_boot.ensures (tested_subject _ (program_in c.args.program.now) _ c.in-Some.ensures)
