-- What the program test finds.
use mathlib.Core.Path.{◌≡◌, refl, ap}
use Rattle.std.specs.Prelude.{Some, None, false, replicate}
use Rattle.rules.specs.Limits.{places}
use Rattle.rules.specs.Bytes.{Bytes}
use Rattle.rules.specs.Got.{Got, refused, got}
use Rattle.rules.specs.Program.{Program}
use Rattle.program_test.specs.declared.test.Tested.{Tested}
use Rattle.program_test.specs.Test.{TestedAs}
use Rattle.depot_subjects.specs.Subject.{of_tested, of_program}

pub none_subject : (p : Bytes) (g : Got Program) → TestedAs p g None → record { boot = false; number = 0; components = 0; ids = replicate places 0 } ≡ of_program p g
none_subject p (refused k q) h = refl
none_subject p (got x) h = absurd h

pub tested_subject : (p : Bytes) (g : Got Program) (t : Tested) → TestedAs p g (Some t) → of_tested t ≡ of_program p g
tested_subject p (refused k q) t h = cc
tested_subject p (got x) t h = ap of_tested h.exact
