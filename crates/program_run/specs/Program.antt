-- The run of a program, over what it is lent.
use Rattle.std.specs.Prelude.{ℕ, Bool, List}
use Rattle.rules.specs.declared.controller.Controller.{Controller}
use Rattle.rules.specs.Lent.{Lent, was}
use Rattle.rules.specs.ProgramRun.{run_program}
use Rattle.run_ending.specs.declared.Outcome.{Outcome}
use Rattle.run_ending.specs.Answer.{given, Settled}

-- the outcome, the slots and the trace are those of the rule's run
abbrev pub Runs : List ℕ → Bool → Controller → Lent → List ℕ → Lent → Outcome → Type 0
Runs p verdict device slots answers trace r = Settled device (run_program p (given verdict device (was slots) answers (was trace))) slots trace r
