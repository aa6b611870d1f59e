-- What a run is about: by what check answers, or by what the program test finds.
use Rattle.std.specs.Prelude.{Bool, true, false, replicate}
use Rattle.rules.specs.declared.answers.Group.{Group}
use Rattle.rules.specs.declared.answers.Group.TheVariants.{Install, Boot}
use Rattle.rules.specs.Bytes.{Bytes}
use Rattle.rules.specs.Got.{Got, refused, got}
use Rattle.rules.specs.Check.{check}
use Rattle.rules.specs.Limits.{places}
use Rattle.rules.specs.Program.{Program}
use Rattle.rules.specs.ProgramTest.{program_in}
use Rattle.pitvorgas_answers.specs.declared.CheckAnswer.{CheckAnswer}
use Rattle.pitvorgas.specs.Answers.{checked_of}
use Rattle.program_test.specs.declared.test.Tested.{Tested}
use Rattle.program_test.specs.Test.{tested_of}
use Rattle.depot_run_types.specs.declared.Run as The
use Rattle.depot_run_types.specs.declared.Run.TheVariants as Run
use Rattle.depot_run_types.specs.declared.Subject.{Subject}

abbrev pub is_boot : Group → Bool
is_boot Install = false
is_boot Boot = true

abbrev pub of_checked : Bool → CheckAnswer → Subject
of_checked boot a = record { boot = boot; number = a.number; components = a.components; ids = a.ids }

abbrev pub of_tested : Tested → Subject
of_tested t = record { boot = is_boot t.group; number = t.number; components = t.components; ids = t.ids }

abbrev pub of_program : Bytes → Got Program → Subject
of_program p (refused k q) = record { boot = false; number = 0; components = 0; ids = replicate places 0 }
of_program p (got x) = of_tested (tested_of p x)

abbrev pub subject_of : The.Run → Bytes → Subject
subject_of Run.Install s = of_checked false (checked_of (check s))
subject_of Run.Boot s = of_checked true (checked_of (check s))
subject_of Run.Program s = of_program s (program_in s)
