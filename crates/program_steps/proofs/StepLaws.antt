-- A step: a jump followed, or a command done.
use Prim.Native.Nat.{ℕ, ◌+◌, ◌≤◌}
use mathlib.Core.Path.{◌≡◌}
use mathlib.Core.List.{List}
use native.Mathlib.Omega.{arith}
use lib.ListN.{length, get_or}
use Rattle.rules.specs.declared.answers.End.TheVariants.{Finished}
use Rattle.rules.specs.Answers.{end_number}
use Rattle.rules.specs.Bytes.{Bytes}
use Rattle.rules.specs.ProgramFormat.{JUMP, code_from, record_size}
use Rattle.program_steps.specs.declared.ProgramState.{ProgramState}
use Rattle.program_jump.specs.declared.RecordPlace.{RecordPlace}
use Rattle.program_jump.specs.Jump.{JumpJob, Jumped}
use Rattle.program_jump.proofs.FirstRecord.{first_of}
use Rattle.program_steps.specs.Step.{ExecJob, Executed, StepAsked, Stepped}

module _ (p : Bytes) (total : ℕ) (current : ProgramState) (vendor class answers slots : Bytes) (memory : List ℕ) (trace : Bytes)
    (j : StepAsked p total current vendor class answers slots memory trace) where
  pub step_room : current.at + record_size ≤ length p
  step_room = omega (arith, (first_of p j.0.group j.0.components total current.n current.at j.0.ready.place j.1).room)

  module _ (e : get_or p (current.at + code_from) 0 ≡ JUMP) where
    abbrev pub jump-here : JumpJob p current.at current.n
    jump-here = record { group = j.0.group; components = j.0.components; total = total; place = j.0.ready.place; before = j.1; stands = e }

    pub step_jumped : (s : RecordPlace) → Jumped p current.at current.n jump-here s →
        Stepped p total current vendor class answers slots memory trace j.0
        (record { at = s.at; n = s.n; events = current.events; used = current.used; end = end_number Finished }) slots memory trace
    step_jumped s l =
        record {
          moved =
              record {
                ready =
                    record {
                      lent = j.0.ready.lent;
                      among = j.0.ready.among;
                      place = l.place;
                      size = j.0.ready.size;
                      few = omega (arith, j.0.ready.few, l.few);
                    };
                goes = λ z. l.goes j.0.env _;
                stops = λ h. absurd (omega arith);
              };
          few = omega arith;
          late = λ h. absurd (omega arith);
          further = l.further;
        }

  module _ (e : get_or p (current.at + code_from) 0 ≡ JUMP → ⊥) where
    abbrev pub execute_job : ExecJob p current vendor class answers slots memory trace
    execute_job =
        record { env = j.0.env; group = j.0.group; components = j.0.components; total = total; ready = j.0.ready; before = j.1; stands = e }

    pub step-done : (r : ProgramState) (slots' : Bytes) (memory' : List ℕ) (trace' : Bytes) →
        Executed p current vendor class answers slots memory trace execute_job r slots' memory' trace' →
        Stepped p total current vendor class answers slots memory trace j.0 r slots' memory' trace'
    step-done r slots' memory' trace' x = record { moved = x.moved; few = omega (arith, x.wrote); late = λ h. x.wrote; further = x.further }
