-- The run of an envelope, over what it is lent.
use Rattle.std.specs.Prelude.{ℕ, List, Bool}
use Rattle.rules.specs.declared.answers.Group.{Group}
use Rattle.rules.specs.declared.controller.Controller.{Controller}
use Rattle.rules.specs.Lent.{Lent, was}
use Rattle.rules.specs.Run.{run_envelope}
use Rattle.run_ending.specs.declared.Outcome.{Outcome}
use Rattle.run_ending.specs.Answer.{given, Settled}

-- the outcome, the slots and the trace are those of the rule's run
abbrev pub Runs : List ℕ → Group → Bool → Controller → Lent → List ℕ → Lent → Outcome → Type 0
Runs s group verdict device slots answers trace r = Settled device (run_envelope s group (given verdict device (was slots) answers (was trace))) slots trace r
