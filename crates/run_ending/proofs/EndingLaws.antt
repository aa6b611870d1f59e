-- The end of a run by its number.
use Prim.Native.Nat.{ℕ}
use mathlib.Core.Path.{◌≡◌, refl}
use mathlib.Core.Bool.{Bool, true, false, cond}
use lib.Dec.{eqb}
use borrow.Author.Tests.{eq-eqb, ne_eqb}
use Rattle.rules.specs.declared.answers.End.TheVariants.{Finished, ConditionFailed, Started, Failed}
use Rattle.rules.specs.declared.answers.Failure.{Failure}
use Rattle.rules.specs.declared.answers.Failure.TheVariants.{ParameterUnset, Aborted, NoAnswer, BadStatus, TooLarge, NothingToCopy, NothingToRun}
use Rattle.rules.specs.declared.answers.Group.{Group}
use Rattle.rules.specs.declared.answers.Group.TheVariants.{Install}
use Rattle.rules.specs.Answers.{end_of, failure_of, failure_number}
use Rattle.rules.specs.Run.{is_finished, number_after}

failed : (f : Failure) → eqb (failure_number f) 0 ≡ false
failed ParameterUnset = refl
failed Aborted = refl
failed NoAnswer = refl
failed BadStatus = refl
failed TooLarge = refl
failed NothingToCopy = refl
failed NothingToRun = refl

-- a run finished exactly where its number is 0
pub finished_law : (n : ℕ) → is_finished (end_of n) ≡ eqb n 0
finished_law n = go (eqb n 0) (eqb n 1) (eqb n 2)
  where
    go : (a b c : Bool) → is_finished (cond a Finished (cond b ConditionFailed (cond c Started (Failed (failure_of n))))) ≡ a
    go true b c = refl
    go false true c = refl
    go false false true = refl
    go false false false = failed (failure_of n)

-- 'The device takes the manifest's sequence number exactly when install finishes'
module _ (group : Group) (end new old : ℕ) (e : group ≡ Install) where
  pub takes : end ≡ 0 → new ≡ number_after group (end_of end) new old
  takes z = rw (e, finished_law end, eq-eqb end 0 z)

  pub keeps : (end ≡ 0 → ⊥) → old ≡ number_after group (end_of end) new old
  keeps d = rw (e, finished_law end, ne_eqb end 0 d)
