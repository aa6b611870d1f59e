-- The answer of a run, by the rule.
use Prim.Native.Nat.{ℕ, ◌+◌}
use mathlib.Core.Path.{◌≡◌, refl, ap, ◌∙◌}
use mathlib.Core.List.{List}
use native.Mathlib.Omega.{arith}
use lib.ListN.{length, replicate}
use Rattle.std.specs.Prelude.{Result, Ok, Err}
use Rattle.rules.specs.declared.answers.Fault.{Fault}
use Rattle.rules.specs.declared.answers.Group.{Group}
use Rattle.rules.specs.declared.answers.Refusal.{Refusal}
use Rattle.rules.specs.Answers.{end_of}
use Rattle.rules.specs.Limits.{memory_numbers, plan_sequences}
use Rattle.rules.specs.Bytes.{Bytes, put}
use Rattle.rules.specs.Got.{refused}
use Rattle.rules.specs.Manifest.{names}
use Rattle.rules.specs.Check.{check}
use Rattle.rules.specs.Run.{Input, run_all, plan_of, admit, number_after, report, start_state, env_of, run_of, run_envelope}
use Rattle.rules_theorems.proofs.Effects.{envelope_effects}
use Rattle.check_envelope.specs.Report.{report_of}
use Rattle.run_admission.specs.Admission.{tests_of}
use Rattle.run_ending.specs.declared.Ending.{Ending}
use Rattle.run_actions.specs.declared.Progress.{Progress}
use Rattle.run_slot_search.specs.Search.{names_at, Found}
use Rattle.run_ending.specs.Answer.{LastEvent, ending_of, Settles}
use Rattle.run_commands.specs.Machine.{out_at}
use Rattle.run_plan.specs.Plan.{PlanJob, PlanRan}
use Rattle.manifest_accessors.specs.Accepted.{Accepted}
use Rattle.manifest_accessors.proofs.AcceptedLaws.{known, counted, named, refused-by}
use Rattle.manifest_plan.specs.Plan.{starts_of}
use Rattle.manifest_plan.proofs.PlanLaws.{plan-left}
use Rattle.run_admission.proofs.FrameLaws.{trace-room, lent-start, state-start, settles_refused}
use Rattle.run_admission.proofs.FrameLaws as Frame

module _ (s : Bytes) (number n : ℕ) (ids sections : List ℕ) (a : Accepted s number n ids sections) where
  module _ (group : Group) (x : Input) (t : Result (Unit {0}) Refusal) (e : t ≡ tests_of (admit group number (names_at s ids n) x)) where
    stops : t ≡ tests_of (admit group a.manifest.number (names s a.manifest) x)
    stops = rw (← a.numbered, ← named s number n ids sections a) e

    is-run : run_envelope s group x ≡ run_of group a.manifest.number (names s a.manifest) (λ env st. run_all env (plan_of group a.manifest) st) x
    unfolding run_envelope
    is-run = rw a.checks

    pub refused-answer : (r : Refusal) → t ≡ Err r →
        Settles x.device (run_envelope s group x) (record { answer = Err (record { refusal = r; at = 0 }); number = x.device.number }) x.slots x.slots x.trace x.trace
    refused-answer = Frame.refused-answer group a.manifest.number (names s a.manifest) x _ (run_envelope s group x) is-run t stops

    module _ (z : t ≡ Ok tt) (memory : List ℕ) (f : Found (names_at s ids n) x.slots (replicate memory_numbers 0) memory)
        (starts : List ℕ) (total : ℕ)
        (p : (starts ≡ put (replicate plan_sequences 0) 0 (starts_of group sections)) × (total ≡ 0 + length (starts_of group sections))) where
      unfoldable whole : PlanJob s starts total x.device.vendor x.device.class x.answers x.slots memory x.trace
      whole =
          record {
            ready =
                record {
                  env = env_of (names s a.manifest) x;
                  lent = lent-start group a.manifest.number (names s a.manifest) x t stops z
                      (known s number n ids sections a).some-ids.1 memory (rw (named s number n ids sections a) at f) s;
                  inside = (known s number n ids sections a).some-ids.0;
                };
            plan = plan_of group a.manifest;
            left = rw (counted s number n ids sections a) (plan-left s number n ids sections a group (replicate plan_sequences 0) starts total refl p);
          }

      pub job : PlanJob s starts total x.device.vendor x.device.class x.answers x.slots memory x.trace
      job = whole

      module _ (r : Progress) (slots' : Bytes) (memory' : List ℕ) (trace' : Bytes)
          (d : (j : PlanJob s starts total x.device.vendor x.device.class x.answers x.slots memory x.trace) →
          PlanRan s j.ready.env j.plan x.slots memory x.trace r slots' memory' trace') where
        ran : PlanRan s (env_of (names s a.manifest) x) (plan_of group a.manifest) x.slots memory x.trace r slots' memory' trace'
        unfolding whole
        ran = d whole

        goes : out_at s (length (names s a.manifest)) memory' slots' trace' r ≡ run_all (env_of (names s a.manifest) x) (plan_of group a.manifest) (start_state (names s a.manifest) x)
        goes =
            ran.goes ∙ ap (run_all (env_of (names s a.manifest) x) (plan_of group a.manifest))
            (state-start group a.manifest.number (names s a.manifest) x t stops z (known s number n ids sections a).some-ids.1 memory
            (rw (named s number n ids sections a) at f) s)

        pub last-event : LastEvent r.end r.events trace'
        unfolding report
        last-event =
            let f = envelope_effects s group a.manifest x _ a.checks
            (Frame.run_as group a.manifest.number (names s a.manifest) x _ (run_envelope s group x) is-run t stops z r.end r.events r.used _ slots' trace' goes) in
            (ran.late, omega (arith, f.fits, f.trace-length, trace-room group a.manifest.number (names s a.manifest) x t stops z))

        pub answered : (ending : Ending) (after : ℕ) → ending ≡ ending_of r.end r.events r.used trace' → after ≡ number_after group (end_of r.end) number x.device.number →
            Settles x.device (run_envelope s group x) (record { answer = Ok ending; number = after }) x.slots slots' x.trace trace'
        answered ending after p q =
            Frame.answered group a.manifest.number (names s a.manifest) x _ (run_envelope s group x) is-run t stops z r.end r.events r.used _ slots' trace' goes ending after p
            (rw (← a.numbered) q)

module _ (s : Bytes) (d : Fault) (e : Err d ≡ report_of (check s)) where
  not-run : (group : Group) (x : Input) → run_envelope s group x ≡ refused d.refusal d.at
  unfolding run_envelope
  not-run group x = rw (refused-by s d e)

  pub refused-check : (group : Group) (x : Input) →
      Settles x.device (run_envelope s group x) (record { answer = Err d; number = x.device.number }) x.slots x.slots x.trace x.trace
  refused-check group x = settles_refused x (run_envelope s group x) d.refusal d.at (not-run group x)
