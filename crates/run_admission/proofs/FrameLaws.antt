-- What the tests of a run tell: a refusal at place 0, or what the run may rest on; and what a run hands back.
use Prim.Native.Nat.{ℕ, ◌%◌, ◌≤◌}
use mathlib.Core.Path.{◌≡◌, refl, sym, ap, ◌∙◌}
use mathlib.Core.List.{List}
use mathlib.Core.Bool.{Bool, true, false}
use native.Mathlib.Omega.{arith}
use lib.Dec.{eqb, ltb, leb}
use lib.ListN.{length, get_or, replicate}
use borrow.Author.Tests.{eqb-true, leb-true, ltb-true, ltb-false}
use Rattle.std.specs.Prelude.{Result, Ok, Err}
use Rattle.rules.specs.declared.answers.Group.{Group}
use Rattle.rules.specs.declared.answers.Refusal.{Refusal}
use Rattle.rules.specs.declared.answers.Refusal.TheVariants.{NotVerified, EventOpen, WrongNumber, BadSlots, NoSlot, BadAnswers, ShortTrace}
use Rattle.rules.specs.Answers.{end_of}
use Rattle.rules.specs.Limits.{limits, memory_numbers}
use Rattle.rules.specs.Bytes.{Bytes, all_in}
use Rattle.rules.specs.Got.{Got, refused, got, need, ◌>>=◌}
use Rattle.rules.specs.Commands.{Params}
use Rattle.rules.specs.Slots.{answer_bytes, good_slots, slot_names}
use Rattle.rules.specs.Step.{Env, State, state, Out, out}
use Rattle.rules.specs.Run.{Input, Ran, may_start, number_fits, admit, number_after, report, start_state, env_of, run_of}
use Rattle.rules.proofs.GotLaws.{passed}
use Rattle.run_slots.specs.Slot.{Holds}
use Rattle.run_slot_search.specs.Search.{Found}
use Rattle.run_slots.specs.Params.{Unset}
use Rattle.run_slots.proofs.ParamsLaws.{zeros, params-start, fit-start}
use Rattle.run_slot_search.proofs.SearchLaws.{good-some}
use Rattle.run_actions.specs.Action.{AllHold}
use Rattle.run_commands.specs.Machine.{state_at, Lends}
use Rattle.run_admission.specs.Admission.{tests_of}
use Rattle.run_ending.specs.declared.Ending.{Ending}
use Rattle.run_ending.specs.Answer.{ending_of, Settles}
use Rattle.run_ending.proofs.EndingLaws.{finished_law}

-- a refusal of a run has place 0
abbrev AtZero : {A : Type 0} → Got A → Type 0
AtZero (refused r p) = p ≡ 0
AtZero (got a) = Unit {0}

need-zero : {A : Type 0} (b : Bool) (r : Refusal) (f : Unit {0} → Got A) → AtZero (f tt) → AtZero (need b r 0 >>= f)
need-zero true r f h = h
need-zero false r f h = refl

last-zero : (b : Bool) (r : Refusal) → AtZero (need b r 0)
last-zero true r = tt
last-zero false r = refl

-- what was refused, or all that was tested
refused-tests : (y : Got (Unit {0})) → AtZero y → (r : Refusal) → Err r ≡ tests_of y → y ≡ refused r 0
refused-tests (refused k p) z r e = let q : k ≡ r = cc in rw (q, z)
refused-tests (got u) z r e = cc

passed-tests : (y : Got (Unit {0})) → Ok tt ≡ tests_of y → y ≡ got tt
passed-tests (refused r p) e = cc
passed-tests (got u) e = refl

module _ (group : Group) (number : ℕ) (ids : List Bytes) (x : Input) where
  admit-zero : AtZero (admit group number ids x)
  unfolding admit
  admit-zero =
      need-zero x.verdict NotVerified _
      (need-zero (may_start group x.device) EventOpen _
      (need-zero (number_fits group number x.device) WrongNumber _
      (need-zero (good_slots x.slots) BadSlots _
      (need-zero (all_in ids (slot_names x.slots)) NoSlot _
      (need-zero (eqb (length x.answers % answer_bytes) 0) BadAnswers _
      (last-zero (leb limits.trace (length x.trace)) ShortTrace))))))

  record Tested : Type 0 where
    slots : good_slots x.slots ≡ true
    answers : length x.answers % answer_bytes ≡ 0
    trace : limits.trace ≤ length x.trace

  tested : admit group number ids x ≡ got tt → Tested
  unfolding admit
  tested q₀ =
      let (_, q₁) = passed x.verdict NotVerified 0 _ tt q₀ in
      let (_, q₂) = passed (may_start group x.device) EventOpen 0 _ tt q₁ in
      let (_, q₃) = passed (number_fits group number x.device) WrongNumber 0 _ tt q₂ in
      let (a, q₄) = passed (good_slots x.slots) BadSlots 0 _ tt q₃ in
      let (_, q₅) = passed (all_in ids (slot_names x.slots)) NoSlot 0 _ tt q₄ in
      let (b, q₆) = passed (eqb (length x.answers % answer_bytes) 0) BadAnswers 0 _ tt q₅ in
      record { slots = a; answers = eqb-true _ 0 b; trace = leb-true _ _ (held (leb limits.trace (length x.trace)) q₆) }
    where
      held : (b : Bool) → need b ShortTrace 0 ≡ got tt → b ≡ true
      held true e = refl
      held false e = let z : ◌≡◌ {A = ℕ} 0 1 = cc in absurd (omega arith)

-- a run of any body, by what its tests answered
module _ (group : Group) (number : ℕ) (ids : List Bytes) (x : Input) (t : Result (Unit {0}) Refusal) (e : t ≡ tests_of (admit group number ids x)) where
  refused-run : (body : Env → State → Out) → (r : Refusal) → t ≡ Err r → run_of group number ids body x ≡ refused r 0
  unfolding run_of
  refused-run body r d =
      let y : admit group number ids x ≡ refused r 0 = refused-tests _ (admit-zero group number ids x) r (sym d ∙ e) in
      rw y

  module _ (z : t ≡ Ok tt) where
    admitted : admit group number ids x ≡ got tt
    admitted = passed-tests _ (sym z ∙ e)

    facts : Tested group number ids x
    facts = tested group number ids x admitted

    pub trace-room : limits.trace ≤ length x.trace
    trace-room = facts.trace

    ran-run : (body : Env → State → Out) (o : Out) → o ≡ body (env_of ids x) (start_state ids x) → run_of group number ids body x ≡ got (report group number x o)
    unfolding run_of
    ran-run body o q = rw (admitted, q)

    module _ (few : length ids ≤ limits.components) (memory : List ℕ) (f : Found ids x.slots (replicate memory_numbers 0) memory) where
      holds : AllHold memory x.slots
      holds i h = go (ltb i (length ids)) refl
        where
          go : (b : Bool) → ltb i (length ids) ≡ b → Holds x.slots (get_or memory i 0)
          go true l = f.there i (ltb-true _ _ l)
          go false l =
              let y : get_or memory i 0 ≡ 0 = f.beyond i (ltb-false _ _ l) ∙ zeros memory_numbers i in
              rw y (omega (arith, good-some x.slots facts.slots))

      unset : Unset memory
      unset j h = f.beyond j (omega arith) ∙ zeros memory_numbers j

      -- what the run is lent, with all parameters unset
      pub lent-start : (s : Bytes) → Lends (env_of ids x) s x.device.vendor x.device.class x.answers x.slots memory x.trace
      lent-start s =
          record {
            host = record { vendors = refl; classes = refl; replies = refl; few = few; numbers = λ i h. sym (f.number i h) };
            hold = holds;
            fit = fit-start memory unset s (length ids);
            answered = facts.answers;
            room = facts.trace;
          }

      pub state-start : (s : Bytes) → state_at s (length ids) memory x.slots x.trace 0 0 ≡ start_state ids x
      state-start s = ap (λ (ps : List Params). state ps x.slots x.trace 0 0) (params-start memory unset s (length ids))

-- what is handed back is what the rule's answer says
pub settles_refused : (x : Input) (g : Got Ran) (k : Refusal) (p : ℕ) → g ≡ refused k p →
    Settles x.device g (record { answer = Err (record { refusal = k; at = p }); number = x.device.number }) x.slots x.slots x.trace x.trace
settles_refused x g k p q = rw q (refl, refl, refl, refl)

settles_ran : (group : Group) (number : ℕ) (x : Input) (end events used : ℕ) (ps : List Params) (slots trace : Bytes) (g : Got Ran) →
    g ≡ got (report group number x (out (end_of end) (state ps slots trace events used))) → (ending : Ending) (after : ℕ) → ending ≡ ending_of end events used trace →
    after ≡ number_after group (end_of end) number x.device.number →
    Settles x.device g (record { answer = Ok ending; number = after }) x.slots slots x.trace trace
unfolding report
settles_ran group number x end events used ps slots trace g q ending after p w = rw (q, p, w, finished_law end) (refl, refl, refl, refl)

-- the answer of a job that is a run of that body
module _ (group : Group) (number : ℕ) (ids : List Bytes) (x : Input) (body : Env → State → Out) (job : Got Ran) (is : job ≡ run_of group number ids body x)
    (t : Result (Unit {0}) Refusal) (e : t ≡ tests_of (admit group number ids x)) where
  pub refused-answer : (r : Refusal) → t ≡ Err r →
      Settles x.device job (record { answer = Err (record { refusal = r; at = 0 }); number = x.device.number }) x.slots x.slots x.trace x.trace
  refused-answer r d = settles_refused x job r 0 (is ∙ refused-run group number ids x t e body r d)

  module _ (z : t ≡ Ok tt) (end events used : ℕ) (ps : List Params) (slots trace : Bytes)
      (goes : out (end_of end) (state ps slots trace events used) ≡ body (env_of ids x) (start_state ids x)) where
    pub run_as : job ≡ got (report group number x (out (end_of end) (state ps slots trace events used)))
    run_as = is ∙ ran-run group number ids x t e z body _ goes

    pub answered : (ending : Ending) (after : ℕ) → ending ≡ ending_of end events used trace → after ≡ number_after group (end_of end) number x.device.number →
        Settles x.device job (record { answer = Ok ending; number = after }) x.slots slots x.trace trace
    answered ending after p w = settles_ran group number x end events used ps slots trace job run_as ending after p w
