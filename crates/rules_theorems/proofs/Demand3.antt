-- Demand 3 over the rules: the program of an accepted manifest, run on its own, does what the manifest's run does.
use Prim.Native.Nat.{ℕ, ◌≤◌, ◌<◌}
use mathlib.Core.Path.{◌≡◌, fun_ext}
use native.Mathlib.Omega.{arith}
use lib.ListN.{length}
use borrow.Author.Tests.{le-leb, lt-leb}
use Rattle.rules.specs.declared.answers.Group.{Group}
use Rattle.rules.specs.declared.answers.Refusal.TheVariants.{ShortRoom}
use Rattle.rules.specs.Bytes.{Bytes}
use Rattle.rules.specs.Got.{refused, got}
use Rattle.rules.specs.Manifest.{Manifest}
use Rattle.rules.specs.Check.{check}
use Rattle.rules.specs.Step.{Env, State, Out}
use Rattle.rules.specs.Run.{Input, run_all, run_envelope, plan_of}
use Rattle.rules.specs.Program.{Program, program_of, program_bytes, flat_all, translate}
use Rattle.rules.specs.ProgramTest.{program_in}
use Rattle.rules.specs.ProgramRun.{exec, run_program}
use Rattle.rules_theorems.proofs.RunLaws.{all_law}
use Rattle.rules_theorems.proofs.RoundTrip.{GoodProgram, program_law}
use Rattle.rules_theorems.proofs.ManifestLaws.{sound}
use Rattle.rules_theorems.proofs.FlatLaws.{well_formed_lem}

-- what demand 3 says of an envelope, a group and the program p that is written out for them, whatever the room
pub record Agrees (s : Bytes) (g : Group) (p : Program) : Type 0 where
  -- translation gives 96 exactly when the room is shorter than the program; else the program
  pub enough : (room : ℕ) → length (program_bytes p) ≤ room → translate s g room ≡ got (program_bytes p)
  pub short : (room : ℕ) → room < length (program_bytes p) → translate s g room ≡ refused ShortRoom 0
  -- the program is never 97
  pub formed : program_in (program_bytes p) ≡ got p
  -- on equal inputs, good or bad: the same refusal and place, or the same end and place, events, answers used, slots, number and trace
  pub same : (x : Input) → run_program (program_bytes p) x ≡ run_envelope s g x

same-run : (s : Bytes) (g : Group) (m : Manifest) (x : Input) → check s ≡ got m → GoodProgram (program_of s g m) →
    run_program (program_bytes (program_of s g m)) x ≡ run_envelope s g x
unfolding run_program run_envelope program_of
same-run s g m x e good =
    let bodies : ◌≡◌ {A = Env → State → Out} (λ env st. exec env (flat_all (plan_of g m) 0) 0 0 st) (λ env st. run_all env (plan_of g m) st) =
    fun_ext λ env. fun_ext λ st. all_law env (plan_of g m) 0 st (omega (arith, good.few)) in
    rw (e, program_law (program_of s g m) good, bodies)

pub demand_3 : (s : Bytes) (g : Group) (m : Manifest) → check s ≡ got m → Agrees s g (program_of s g m)
unfolding translate
demand_3 s g m e =
    let good : GoodProgram (program_of s g m) = well_formed_lem s g m (sound s m e) in
    record {
      enough = λ room h. rw (e, le-leb _ _ h);
      short = λ room h. rw (e, lt-leb _ _ h);
      formed = program_law (program_of s g m) good;
      same = λ x. same-run s g m x e good;
    }
