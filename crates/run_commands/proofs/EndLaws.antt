-- The numbers of ends, as an event has them.
use Prim.Native.Nat.{ℕ, ◌<◌}
use mathlib.Core.Path.{◌≡◌, refl}
use native.Mathlib.Omega.{arith}
use mathlib.Core.Bool.{cond}
use lib.Dec.{eqb}
use Rattle.rules.specs.declared.answers.End.{End}
use Rattle.rules.specs.declared.answers.End.TheVariants.{Finished, ConditionFailed, Started, Failed}
use Rattle.rules.specs.declared.answers.Failure.{Failure}
use Rattle.rules.specs.declared.answers.Failure.TheVariants.{ParameterUnset, Aborted, NoAnswer, BadStatus, TooLarge, NothingToCopy, NothingToRun}
use Rattle.rules.specs.Answers.{end_number, result_number, end_of, failure_number}
use Rattle.run_actions.specs.Action.{Ends}

-- each fits a byte
failure_small : (f : Failure) → failure_number f < 256
failure_small ParameterUnset = omega arith
failure_small Aborted = omega arith
failure_small NoAnswer = omega arith
failure_small BadStatus = omega arith
failure_small TooLarge = omega arith
failure_small NothingToCopy = omega arith
failure_small NothingToRun = omega arith

end-small : (e : End) → end_number e < 256
end-small Finished = omega arith
end-small ConditionFailed = omega arith
end-small Started = omega arith
end-small (Failed f) = failure_small f

-- and is the result, but for that of a started image
failure_result : (f : Failure) → failure_number f ≡ cond (eqb (failure_number f) (end_number Started)) 0 (failure_number f)
failure_result ParameterUnset = refl
failure_result Aborted = refl
failure_result NoAnswer = refl
failure_result BadStatus = refl
failure_result TooLarge = refl
failure_result NothingToCopy = refl
failure_result NothingToRun = refl

end_result : (e : End) → result_number e ≡ cond (eqb (end_number e) (end_number Started)) 0 (end_number e)
end_result Finished = refl
end_result ConditionFailed = refl
end_result Started = refl
end_result (Failed f) = failure_result f

module _ (n : ℕ) (h : Ends n) where
  pub ends-small : n < 256
  ends-small = rw h at (end-small (end_of n))

  pub ends_result : result_number (end_of n) ≡ cond (eqb n (end_number Started)) 0 n
  ends_result = rw h at (end_result (end_of n))
