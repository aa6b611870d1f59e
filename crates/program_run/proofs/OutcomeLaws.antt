-- The answer of a run of a program, by the rule.
use Prim.Native.Nat.{ℕ, ◌-◌, ◌≤◌}
use mathlib.Core.Path.{◌≡◌, refl, sym, ap, ◌∙◌}
use mathlib.Core.List.{List}
use Rattle.std.proofs.Common.{Some, None}
use native.Mathlib.Omega.{arith}
use lib.ListN.{length, replicate}
use Rattle.std.specs.Prelude.{Result, Ok, Err}
use Rattle.rules.specs.declared.answers.Refusal.{Refusal}
use Rattle.rules.specs.declared.answers.Refusal.TheVariants.{BadProgram}
use Rattle.rules.specs.Answers.{end_of}
use Rattle.rules.specs.Limits.{limits, memory_numbers}
use Rattle.rules.specs.Bytes.{Bytes, InBytes}
use Rattle.rules.specs.Got.{Got, refused, got}
use Rattle.rules.specs.Program.{Program}
use Rattle.rules.specs.ProgramTest.{program_in}
use Rattle.rules.specs.ProgramRun.{exec, run_program}
use Rattle.rules.specs.Run.{Input, admit, number_after, report, start_state, env_of, run_of}
use Rattle.run_slot_search.specs.Search.{names_at, Found}
use Rattle.run_commands.specs.Machine.{state_at}
use Rattle.run_admission.specs.Admission.{tests_of}
use Rattle.run_ending.specs.declared.Ending.{Ending}
use Rattle.run_ending.specs.Answer.{LastEvent, ending_of, Settles}
use Rattle.run_admission.proofs.FrameLaws.{trace-room, lent-start, state-start, settles_refused}
use Rattle.run_admission.proofs.FrameLaws as Frame
use Rattle.program_steps.specs.declared.ProgramState.{ProgramState}
use Rattle.program_test.specs.declared.test.Tested.{Tested}
use Rattle.program_test.specs.Test.{TestedAs}
use Rattle.program_run.specs.Known.{Known}
use Rattle.program_steps.specs.Step.{RunJob, state_of, start_at, Ran}
use Rattle.rules.specs.Step.{out}
use Rattle.rules_theorems.proofs.Effects.{program_effects}
use Rattle.rules_theorems.proofs.ProgramFaults.{Only97, program97}
use Rattle.run_slot_search.proofs.SearchLaws.{names-count}

module _ (p : Bytes) (t : Tested) (a : Known p t) where
  group : t.group ≡ a.program.group
  group = ap (λ (y : Tested). y.group) a.stands.exact

  number : t.number ≡ a.program.number
  number = ap (λ (y : Tested). y.number) a.stands.exact

  pub few : t.components ≤ limits.components
  few = a.stands.some-ids.1

  pub inside : InBytes t.ids t.components (length p)
  inside = a.stands.places

  pub counted : length a.program.ids ≡ t.components
  counted = ap length (sym a.stands.names) ∙ names-count p t.ids t.components

  module _ (x : Input) (tests : Result (Unit {0}) Refusal) (e : tests ≡ tests_of (admit t.group t.number (names_at p t.ids t.components) x)) where
    pub stops : tests ≡ tests_of (admit a.program.group a.program.number a.program.ids x)
    stops = rw (← group, ← number, ← a.stands.names) e

    is-run : run_program p x ≡ run_of a.program.group a.program.number a.program.ids (λ env st. exec env a.program.records 0 0 st) x
    unfolding run_program
    is-run = rw a.tests

    pub refused-answer : (r : Refusal) → tests ≡ Err r →
        Settles x.device (run_program p x) (record { answer = Err (record { refusal = r; at = 0 }); number = x.device.number }) x.slots x.slots x.trace x.trace
    refused-answer = Frame.refused-answer a.program.group a.program.number a.program.ids x _ (run_program p x) is-run tests stops

    module _ (z : tests ≡ Ok tt) (memory : List ℕ) (f : Found (names_at p t.ids t.components) x.slots (replicate memory_numbers 0) memory) where
      unfoldable pub job : RunJob p t.records (start_at t.from) x.device.vendor x.device.class x.answers x.slots memory x.trace
      job =
          record {
            env = env_of a.program.ids x;
            group = a.program.group;
            components = t.components;
            ready =
                record {
                  lent = lent-start a.program.group a.program.number a.program.ids x tests stops z (omega (arith, few, counted)) memory (rw a.stands.names at f) p;
                  among = counted;
                  place =
                      record {
                        records = a.program.records;
                        below = omega arith;
                        fits = a.stands.from;
                        reads = let w : t.records - 0 ≡ t.records = omega arith in rw w a.stands.reads;
                      };
                  size = a.stands.size;
                  few = omega (arith, a.stands.few);
                };
            going = refl;
          }

      module _ (r : ProgramState) (slots' : Bytes) (memory' : List ℕ) (trace' : Bytes)
          (d : (j : RunJob p t.records (start_at t.from) x.device.vendor x.device.class x.answers x.slots memory x.trace) →
          Ran p t.records t.from x.device.vendor x.device.class x.answers x.slots memory x.trace j r slots' memory' trace') where
        ran : Ran p t.records t.from x.device.vendor x.device.class x.answers x.slots memory x.trace job r slots' memory' trace'
        ran = d job

        done : out (end_of r.end) (state_of p t.components memory' slots' trace' r) ≡ exec (env_of a.program.ids x) a.program.records 0 0 (start_state a.program.ids x)
        unfolding job
        done =
            ran.goes
            ∙ ap (λ (n : ℕ). exec (env_of a.program.ids x) a.program.records 0 0 (state_at p n memory x.slots x.trace 0 0)) (sym counted)
            ∙ ap (exec (env_of a.program.ids x) a.program.records 0 0)
            (state-start a.program.group a.program.number a.program.ids x tests stops z (omega (arith, few, counted)) memory (rw a.stands.names at f) p)

        pub last-event : LastEvent r.end r.events trace'
        unfolding report
        last-event =
            let f = program_effects p a.program x _ a.tests
            (Frame.run_as a.program.group a.program.number a.program.ids x _ (run_program p x) is-run tests stops z r.end r.events r.used _ slots' trace' done) in
            (ran.late, omega (arith, f.fits, f.trace-length, trace-room a.program.group a.program.number a.program.ids x tests stops z))

        pub answered : (ending : Ending) (after : ℕ) → ending ≡ ending_of r.end r.events r.used trace' → after ≡ number_after t.group (end_of r.end) t.number x.device.number →
            Settles x.device (run_program p x) (record { answer = Ok ending; number = after }) x.slots slots' x.trace trace'
        answered ending after q w =
            Frame.answered a.program.group a.program.number a.program.ids x _ (run_program p x) is-run tests stops z r.end r.events r.used _ slots' trace' done ending after q
            (rw (← group, ← number) w)

-- what the test answered
module _ (p : Bytes) where
  no_program_lem : TestedAs p (program_in p) None → program_in p ≡ refused BadProgram 0
  no_program_lem e = go (program_in p) refl e (program97 p)
    where
      go : (y : Got Program) → program_in p ≡ y → TestedAs p y None → Only97 y → program_in p ≡ refused BadProgram 0
      go (refused r k) u v w = rw (← w.0, ← w.1) u
      go (got x) u v w = absurd v

  pub refused-program : TestedAs p (program_in p) None → (x : Input) →
      Settles x.device (run_program p x) (record { answer = Err (record { refusal = BadProgram; at = 0 }); number = x.device.number }) x.slots x.slots x.trace x.trace
  unfolding run_program
  refused-program h x = settles_refused x (run_program p x) BadProgram 0 (rw (no_program_lem h))

  pub known : (t : Tested) → TestedAs p (program_in p) (Some t) → Known p t
  known t e = go (program_in p) refl e
    where
      go : (y : Got Program) → program_in p ≡ y → TestedAs p y (Some t) → Known p t
      go (refused r k) u v = cc
      go (got x) u v = record { program = x; tests = u; stands = v }
