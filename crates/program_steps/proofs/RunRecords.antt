-- Steps one after the other: the run of the whole is the run of what is left.
use Prim.Native.Nat.{ℕ, ◌≤◌, ◌<◌}
use mathlib.Core.Path.{◌≡◌, refl, sym, ap, ◌∙◌}
use mathlib.Core.List.{List, []}
use native.Mathlib.Omega.{arith}
use Rattle.rules.specs.declared.answers.Group.{Group}
use Rattle.rules.specs.declared.answers.End.TheVariants.{Finished}
use Rattle.rules.specs.Answers.{end_number}
use Rattle.rules.specs.Bytes.{Bytes}
use Rattle.rules.specs.Program.{Rec}
use Rattle.rules.specs.ProgramRun.{exec}
use Rattle.rules.specs.Step.{Env, Out}
use Rattle.run_commands.specs.Machine.{state_at}
use Rattle.program_steps.specs.declared.ProgramState.{ProgramState}
use Rattle.program_steps.specs.Step.{state_of, Ready, rest, RunJob, StepAsked, Stepped, start_at, Ran}
use Rattle.program_jump.proofs.FirstRecord.{none_left}

pub record Loop (p : Bytes) (components total : ℕ) (vendor class answers : Bytes) (env : Env) (group : Group) (whole : Out)
    (slots : Bytes) (memory : List ℕ) (trace : Bytes) (current : ProgramState) : Type 0 where
  pub ready : Ready env group p components total current vendor class answers slots memory trace
  pub goes : whole ≡ rest env group p components total current ready.place slots memory trace
  pub calm : current.end ≡ end_number Finished

module _ (p : Bytes) (total from : ℕ) (vendor class answers slots₀ : Bytes) (memory₀ : List ℕ) (trace₀ : Bytes)
    (j : RunJob p total (start_at from) vendor class answers slots₀ memory₀ trace₀) where
  abbrev components : ℕ
  components = j.components

  abbrev pub whole : Out
  whole = exec j.env j.ready.place.records 0 0 (state_at p components memory₀ slots₀ trace₀ 0 0)

  abbrev pub LoopAt : Bytes → List ℕ → Bytes → ProgramState → Type 0
  LoopAt slots memory trace current = Loop p components total vendor class answers j.env j.group whole slots memory trace current

  pub loop_starts : LoopAt slots₀ memory₀ trace₀ (start_at from)
  loop_starts = record { ready = j.ready; goes = refl; calm = refl }

  module _ (slots : Bytes) (memory : List ℕ) (trace : Bytes) (current : ProgramState) (l : LoopAt slots memory trace current) where
    pub loop_done : total ≤ current.n → Ran p total from vendor class answers slots₀ memory₀ trace₀ j current slots memory trace
    unfolding exec
    loop_done h =
        let e : l.ready.place.records ≡ [] = none_left p j.group components total current.n current.at l.ready.place (omega (arith, l.ready.place.below)) in
        record {
          goes = rw l.calm (sym (l.goes ∙ ap (λ (rs : List Rec). exec j.env rs current.n 0 (state_of p components memory slots trace current)) e));
          late = λ z. absurd (omega (arith, l.calm));
          few = omega (arith, l.ready.few);
        }

    abbrev pub loop_job : current.n < total → StepAsked p total current vendor class answers slots memory trace
    loop_job h = (record { env = j.env; group = j.group; components = j.components; ready = l.ready; going = l.calm }, h)

    module _ (h : current.n < total) (r : ProgramState) (slots' : Bytes) (memory' : List ℕ) (trace' : Bytes)
        (s : Stepped p total current vendor class answers slots memory trace (loop_job h).0 r slots' memory' trace') where
      pub loop_stops : (r.end ≡ end_number Finished → ⊥) → Ran p total from vendor class answers slots₀ memory₀ trace₀ j r slots' memory' trace'
      loop_stops z =
          let w : 0 < r.end = omega (arith, z) in
          record { goes = sym (l.goes ∙ s.moved.stops w); late = λ _. omega (arith, s.late w); few = omega (arith, s.moved.ready.few) }

      pub loop_goes_on : r.end ≡ end_number Finished → LoopAt slots' memory' trace' r
      loop_goes_on z = record { ready = s.moved.ready; goes = l.goes ∙ s.moved.goes z; calm = z }

      pub loop_further : (current.n < r.n) × (r.n ≤ total)
      loop_further = (s.further, s.moved.ready.place.below)
