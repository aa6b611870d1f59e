-- The run of a plan's sequences one after the other: what is left of the rule's answer after each.
use Prim.Native.Nat.{ℕ, ◌+◌, ◌≤◌, ◌<◌}
use mathlib.Core.Path.{◌≡◌, refl, sym, ap, ◌∙◌}
use mathlib.Core.List.{List, [], ◌∷◌}
use mathlib.Core.Bool.{Bool, true, false, cond}
use native.Mathlib.Omega.{arith}
use lib.Dec.{eqb}
use lib.ListN.{length, get_or, take}
use lib.Seq.{get_or-take}
use borrow.Author.Tests.{ne_eqb}
use Rattle.rules.specs.declared.answers.End.{End}
use Rattle.rules.specs.declared.answers.End.TheVariants.{Finished, ConditionFailed, Started, Failed}
use Rattle.rules.specs.Answers.{end_number, end_of, failure_of}
use Rattle.rules.specs.Bytes.{Bytes}
use Rattle.rules.specs.Limits.{limits}
use Rattle.rules.specs.Manifest.{Seq, count}
use Rattle.rules.specs.Step.{Env, State, Out, out}
use Rattle.rules.specs.Run.{on, run_seq, run_all}
use Rattle.manifest_plan.specs.Standing.{Left}
use Rattle.run_actions.specs.declared.Progress.{Progress}
use Rattle.run_commands.specs.Machine.{state_at}
use Rattle.run_leaf.specs.declared.Run.{Run}
use Rattle.run_sequence.specs.Cycle.{SequenceJob, SequenceRan}
use Rattle.run_plan.specs.Plan.{start_of, PlanJob, PlanRan}
use Rattle.run_commands.proofs.LentLaws.{Moves, moves-seq}
use Rattle.run_sequence.proofs.Keeping.{Kept, ready_of, kept_of, kept-after, events-after}
use Rattle.manifest_plan.proofs.PlanLaws.{First, plan-first, plan-ends, sequence-at}

-- an end is no success unless its number is that of finished
not_finished : (n : ℕ) → (n ≡ end_number Finished → ⊥) → end_of n ≡ Finished → ⊥
not_finished n h e = go (eqb n 1) (eqb n 2) (rw (ne_eqb n 0 h) at e)
  where
    go : (a b : Bool) → cond a ConditionFailed (cond b Started (Failed (failure_of n))) ≡ Finished → ⊥
    go true b q = let z : ◌≡◌ {A = ℕ} 0 1 = cc in omega arith
    go false true q = let z : ◌≡◌ {A = ℕ} 0 1 = cc in omega arith
    go false false q = let z : ◌≡◌ {A = ℕ} 0 1 = cc in omega arith

next-stops : (e : End) (st : State) (f : State → Out) → (e ≡ Finished → ⊥) → on e st f (λ st'. out ConditionFailed st') ≡ out e st
unfolding on
next-stops Finished st f h = absurd (h refl)
next-stops ConditionFailed st f h = refl
next-stops Started st f h = refl
next-stops (Failed k) st f h = refl

module _ (env : Env) (q : Seq) (qs : List Seq) (st : State) (e : End) (st' : State) (h : out e st' ≡ run_seq env q false 0 false st) where
  all-next : run_all env (q ∷ qs) st ≡ on e st' (λ x. run_all env qs x) (λ x. out ConditionFailed x)
  unfolding run_all
  all-next = rw (← h)

  all-stops : (e ≡ Finished → ⊥) → run_all env (q ∷ qs) st ≡ out e st'
  all-stops n = all-next ∙ next-stops e st' (λ x. run_all env qs x) n

  all-goes : e ≡ Finished → run_all env (q ∷ qs) st ≡ run_all env qs st'
  unfolding on
  all-goes n = all-next ∙ rw n

-- the run at a start that is taken from the plan's part of the array
pub begins : (starts : List ℕ) (total k : ℕ) (now : Progress) → k < total → (run : Run) → run ≡ start_of (get_or (take total starts) k 0) now → run ≡ start_of (get_or starts k 0) now
begins starts total k now l run e = e ∙ ap (λ (from : ℕ). start_of from now) (get_or-take total starts k 0 l)

module _ (s vendor class answers : Bytes) (starts : List ℕ) (total : ℕ) (env : Env) (plan : List Seq) (slots₀ : Bytes) (memory₀ : List ℕ) (trace₀ : Bytes) where
  -- the state that r has reached
  abbrev state_by : Bytes → List ℕ → Bytes → Progress → State
  state_by slots memory trace r = state_at s (length env.ids) memory slots trace r.events r.used

  -- before sequence k: the rule's answer is that for the sequences that are left, from what memory holds now
  pub record Going (slots : Bytes) (memory : List ℕ) (trace : Bytes) (run : Progress) (k : ℕ) : Type 0 where
    pub kept : Kept env s vendor class answers slots memory trace 0
    pub commands : ℕ
    pub rest : List Seq
    pub left : Left s (length env.ids) starts total k commands rest
    pub few : run.events ≤ commands
    pub going : run.end ≡ end_number Finished
    pub goes : run_all env plan (state_at s (length env.ids) memory₀ slots₀ trace₀ 0 0) ≡ run_all env rest (state_by slots memory trace run)

  module _ (slots : Bytes) (memory : List ℕ) (trace : Bytes) (run : Progress) (k : ℕ) (l : Going slots memory trace run k) where
    pub all_done : total ≤ k → PlanRan s env plan slots₀ memory₀ trace₀ run slots memory trace
    unfolding run_all
    all_done h =
        let e : l.rest ≡ [] = plan-ends s (length env.ids) starts total k l.commands l.rest l.left h in
        let g : run_all env l.rest (state_by slots memory trace run) ≡ out Finished (state_by slots memory trace run) =
        ap (λ (xs : List Seq). run_all env xs (state_by slots memory trace run)) e in
        record { goes = rw l.going (sym (l.goes ∙ g)); ends = rw l.going refl; late = λ z. absurd (omega (arith, l.going)) }

    -- one turn of the loop
    module _ (h : k < total) where
      pub its : First s (length env.ids) starts total k l.commands l.rest
      its = plan-first s (length env.ids) starts total k l.commands l.rest l.left h

      abbrev pub turn-job : SequenceJob s limits.depth (start_of (get_or starts k 0) run) vendor class answers slots memory trace
      turn-job =
          record {
            ready = ready_of s vendor class answers env slots memory trace 0 l.kept;
            place = sequence-at s (length env.ids) starts total k l.commands l.rest l.left its run.events l.few;
          }

      module _ (begin : Run) (at-begin : begin ≡ start_of (get_or starts k 0) run) (r : Progress) (slots' : Bytes) (memory' : List ℕ) (trace' : Bytes)
          (ran : (j : SequenceJob s limits.depth begin vendor class answers slots memory trace) →
          SequenceRan s j.ready.env j.place.seq false begin slots memory trace r slots' memory' trace') where
        done : SequenceRan s env its.seq false (start_of (get_or starts k 0) run) slots memory trace r slots' memory' trace'
        done = (rw at-begin at ran) turn-job

        first : run_all env plan (state_at s (length env.ids) memory₀ slots₀ trace₀ 0 0) ≡ run_all env (its.seq ∷ its.others) (state_by slots memory trace run)
        first = l.goes ∙ ap (λ (xs : List Seq). run_all env xs (state_by slots memory trace run)) its.all

        pub turn-stops : (r.end ≡ end_number Finished → ⊥) → PlanRan s env plan slots₀ memory₀ trace₀ r slots' memory' trace'
        turn-stops n =
            record {
              goes = sym (first ∙ all-stops env its.seq _ _ _ _ done.goes (not_finished r.end n));
              ends = done.ends;
              late = done.late;
            }

        pub turn-goes : r.end ≡ end_number Finished → Going slots' memory' trace' r (k + 1)
        turn-goes z =
            let st : State = state_by slots memory trace run in
            let y : Moves st (run_seq env its.seq false 0 false st).state (count its.seq) = moves-seq env its.seq false 0 false st in
            record {
              kept = kept-after s vendor class answers env slots memory trace 0 l.kept run.events run.used _ _ y r slots' memory' trace' done.goes done.fit done.same 0 l.kept.inside;
              commands = l.commands + count its.seq;
              rest = its.others;
              left = its.left;
              few = events-after s vendor class answers (length env.ids) memory slots trace run.events run.used _ _ l.commands y l.few r slots' memory' trace' done.goes;
              going = z;
              goes = first ∙ all-goes env its.seq _ _ _ _ done.goes (rw z refl);
            }

pub going_starts : (s vendor class answers : Bytes) (starts : List ℕ) (total : ℕ) (slots : Bytes) (memory : List ℕ) (trace : Bytes) →
    (j : PlanJob s starts total vendor class answers slots memory trace) →
    Going s vendor class answers starts total j.ready.env j.plan slots memory trace slots memory trace (record { events = 0; used = 0; end = end_number Finished }) 0
going_starts s vendor class answers starts total slots memory trace j =
    record {
      kept = kept_of s vendor class answers slots memory trace 0 j.ready;
      commands = 0;
      rest = j.plan;
      left = j.left;
      few = omega arith;
      going = refl;
      goes = refl;
    }
