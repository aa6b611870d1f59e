use Rattle.depot_subjects.proofs.subject_of.Goals as goal

pub returns-in-Install : goal.returns-in-Install
returns-in-Install c = rw c.in-Install.is c.of_envelope.ensures

pub returns-in-Boot : goal.returns-in-Boot
returns-in-Boot c = rw c.in-Boot.is c.of_envelope-in-Boot.ensures

pub returns-in-Program : goal.returns-in-Program
returns-in-Program c = rw c.in-Program.is c.of_program.ensures
