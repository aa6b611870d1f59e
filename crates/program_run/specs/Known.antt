-- What the program test found in a program that it accepted.
use Rattle.std.specs.Prelude.{◌≡◌}
use Rattle.rules.specs.Bytes.{Bytes}
use Rattle.rules.specs.Got.{got}
use Rattle.rules.specs.Program.{Program}
use Rattle.rules.specs.ProgramTest.{program_in}
use Rattle.program_test.specs.declared.test.Tested.{Tested}
use Rattle.program_test.specs.Test.{ProgramAt}

pub record Known (p : Bytes) (t : Tested) : Type 0 where
  pub program : Program
  pub tests : program_in p ≡ got program
  pub stands : ProgramAt p program t
