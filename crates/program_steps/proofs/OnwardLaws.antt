-- What a run does after a command.
use Prim.Native.Nat.{ℕ, ◌+◌, ◌-◌, ◌≤◌, ◌<◌}
use mathlib.Core.Path.{◌≡◌, refl, sym, ap, ◌∙◌}
use mathlib.Core.List.{List}
use mathlib.Core.Bool.{Bool, true, false, cond}
use native.Mathlib.Omega.{arith}
use lib.Dec.{eqb}
use lib.ListN.{drop}
use borrow.Author.Tests.{eq-eqb, ne_eqb, eqb-true, eqb-false}
use Rattle.rules.specs.declared.answers.End.TheVariants.{Finished, ConditionFailed, Started, Failed}
use Rattle.rules.specs.Answers.{end_number, end_of, failure_of}
use Rattle.rules.specs.Bytes.{Bytes}
use Rattle.rules.specs.Program.{Rec}
use Rattle.rules.specs.ProgramFormat.{NONE}
use Rattle.rules.specs.ProgramRun.{exec, goto, resume}
use Rattle.rules.specs.ProgramTest.{non_jumps}
use Rattle.rules.specs.Run.{on}
use Rattle.rules.specs.Step.{Env, State, out}
use Rattle.run_actions.specs.declared.Progress.{Progress}
use Rattle.program_jump.specs.Jump.{AdvanceJob, Advanced}
use Rattle.program_steps.specs.Step.{OnwardJob, Onward}
use Rattle.program_jump.proofs.JumpLaws.{exec_past, fewer}

module _ (env : Env) (rs : List Rec) (n t : ℕ) where
  module _ (end : ℕ) (st : State) where
    after-good : end ≡ end_number Finished → resume env rs n t (out (end_of end) st) ≡ exec env rs n 0 st
    unfolding on
    after-good z = rw z

    caught : (t ≡ NONE → ⊥) → goto env rs n t st ≡ exec env rs n (t - n) st
    unfolding goto
    caught k = rw (ne_eqb t NONE k, goto)

    uncaught : t ≡ NONE → goto env rs n t st ≡ out ConditionFailed st
    unfolding goto
    uncaught k = rw (eq-eqb t NONE k, goto)

    after-failed : end ≡ end_number ConditionFailed → (t ≡ NONE → ⊥) → n ≤ t → resume env rs n t (out (end_of end) st) ≡ exec env (drop (t - n) rs) t 0 st
    unfolding on
    after-failed z k l =
        let e : n + (t - n) ≡ t = omega arith in
        rw z (caught k ∙ rw e at (exec_past env rs n (t - n) st))

    after_uncaught : end ≡ end_number ConditionFailed → t ≡ NONE → resume env rs n t (out (end_of end) st) ≡ out (end_of end) st
    unfolding on
    after_uncaught z k = rw z (uncaught k)

    after-end : (end ≡ end_number Finished → ⊥) → (end ≡ end_number ConditionFailed → ⊥) → resume env rs n t (out (end_of end) st) ≡ out (end_of end) st
    unfolding on
    after-end z k = rw (ne_eqb end (end_number Finished) z, ne_eqb end (end_number ConditionFailed) k) (go (eqb end (end_number Started)))
      where
        go : (b : Bool) →
            on (cond b Started (Failed (failure_of end))) st (λ st'. exec env rs n 0 st')
            (λ st'. goto env rs n t st')
            ≡ out (cond b Started (Failed (failure_of end))) st
        go true = refl
        go false = refl

module _ (p : Bytes) (at n target : ℕ) (j : OnwardJob p at n target) where
  abbrev pub target-job : (target ≡ NONE → ⊥) → AdvanceJob p at n target
  target-job k =
      record { group = j.group; components = j.components; total = j.total; place = j.place; forward = (j.aims k).0; within = (j.aims k).1 }

  module _ (done : Progress) where
    pub onward-target : done.end ≡ end_number ConditionFailed → (k : target ≡ NONE → ⊥) (r : ℕ) → Advanced p j.group j.components j.total n at j.place target r →
        Onward p j.group j.components j.total n at j.place target done
        (record { at = r; n = target; events = done.events; used = done.used; end = end_number Finished })
    onward-target z k r a =
        let m : non_jumps a.place.records ≡ non_jumps (drop (target - n) j.place.records) = ap non_jumps a.records in
        record {
          place = a.place;
          up = (j.aims k).0;
          few = omega (arith, fewer (target - n) j.place.records);
          events = refl;
          used = refl;
          goes = λ _ env st.
              after-failed env j.place.records n target done.end st z k (j.aims k).0 ∙ ap (λ (rs : List Rec). exec env rs target 0 st) (sym a.records);
          stops = λ l. absurd (omega arith);
        }

    pub onward-next : (done.end ≡ end_number ConditionFailed → target ≡ NONE) →
        Onward p j.group j.components j.total n at j.place target done
        (record { at = at; n = n; events = done.events; used = done.used; end = done.end })
    onward-next h =
        record {
          place = j.place;
          up = omega arith;
          few = omega arith;
          events = refl;
          used = refl;
          goes = λ z env st. after-good env j.place.records n target done.end st z;
          stops = λ l env st. go env st (eqb done.end (end_number ConditionFailed)) refl (omega arith);
        }
      where
        go : (env : Env) (st : State) (b : Bool) → eqb done.end (end_number ConditionFailed) ≡ b → 0 < done.end →
            resume env j.place.records n target (out (end_of done.end) st) ≡ out (end_of done.end) st
        go env st true e l = let z = eqb-true done.end (end_number ConditionFailed) e in after_uncaught env j.place.records n target done.end st z (h z)
        go env st false e l = after-end env j.place.records n target done.end st (λ z. omega arith) (eqb-false done.end (end_number ConditionFailed) e)
