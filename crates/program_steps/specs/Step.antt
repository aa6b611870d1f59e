-- One step of a program's run, and the whole run.
use Rattle.std.specs.Prelude.{ℕ, ◌+◌, ◌≤◌, ◌<◌, ◌≡◌, List, length, get_or}
use Rattle.rules.specs.declared.answers.End.TheVariants.{Finished}
use Rattle.rules.specs.declared.answers.Group.{Group}
use Rattle.rules.specs.Answers.{end_number, end_of}
use Rattle.rules.specs.Bytes.{Bytes}
use Rattle.rules.specs.Limits.{limits}
use Rattle.rules.specs.ProgramFormat.{JUMP, NONE, code_from}
use Rattle.rules.specs.ProgramRun.{exec, resume}
use Rattle.rules.specs.ProgramTest.{non_jumps}
use Rattle.rules.specs.Step.{Env, State, Out, out}
use Rattle.run_actions.specs.declared.Progress.{Progress}
use Rattle.run_commands.specs.Machine.{state_at, Lends}
use Rattle.rules.specs.Lent.{Lent, was, left}
use Rattle.program_steps.specs.declared.ProgramState.{ProgramState}
use Rattle.program_jump.specs.Jump.{RecordsAt}

-- record n at `at`, and a target, which is no record or a later one
pub record OnwardJob (p : Bytes) (at n target : ℕ) : Type 0 where
  pub group : Group
  pub components : ℕ
  pub total : ℕ
  pub place : RecordsAt p group components total n at
  pub aims : (target ≡ NONE → ⊥) → (n ≤ target) × (target ≤ total)

-- the run goes on at r, or ended
pub record Onward (p : Bytes) (group : Group) (components total n at : ℕ) (x : RecordsAt p group components total n at) (target : ℕ) (done : Progress) (r : ProgramState) : Type 0 where
  pub place : RecordsAt p group components total r.n r.at
  pub up : n ≤ r.n
  pub few : non_jumps place.records ≤ non_jumps x.records
  pub events : r.events ≡ done.events
  pub used : r.used ≡ done.used
  pub goes : r.end ≡ end_number Finished → (env : Env) (st : State) → resume env x.records n target (out (end_of done.end) st) ≡ exec env place.records r.n 0 st
  pub stops : 0 < r.end → (env : Env) (st : State) → resume env x.records n target (out (end_of done.end) st) ≡ out (end_of r.end) st

-- the state that a run has reached
abbrev pub state_of : Bytes → ℕ → List ℕ → Bytes → Bytes → ProgramState → State
state_of p components memory slots trace r = state_at p components memory slots trace r.events r.used

-- a run over lent memory that is at a record or at the end of them, with room for an event of each command that is left
pub record Ready (env : Env) (group : Group) (p : Bytes) (components total : ℕ) (current : ProgramState) (vendor class answers slots : Bytes) (memory : List ℕ) (trace : Bytes) : Type 0 where
  pub lent : Lends env p vendor class answers slots memory trace
  pub among : length env.ids ≡ components
  pub place : RecordsAt p group components total current.n current.at
  pub size : total ≤ limits.records
  pub few : current.events + non_jumps place.records ≤ limits.commands

-- what the rule gives from there
abbrev pub rest : (env : Env) (group : Group) (p : Bytes) (components total : ℕ) (current : ProgramState) → RecordsAt p group components total current.n current.at → Bytes → List ℕ → Bytes → Out
rest env group p components total current x slots memory trace = exec env x.records current.n 0 (state_of p components memory slots trace current)

-- the run was taken on to r: it goes on there as the rule does, or ended as the rule says
pub record Moved (env : Env) (group : Group) (p : Bytes) (components total : ℕ) (current : ProgramState) (vendor class answers slots : Bytes) (memory : List ℕ) (trace : Bytes)
    (x : Ready env group p components total current vendor class answers slots memory trace) (r : ProgramState) (slots' : Bytes) (memory' : List ℕ) (trace' : Bytes) : Type 0 where
  pub ready : Ready env group p components total r vendor class answers slots' memory' trace'
  pub goes : r.end ≡ end_number Finished → rest env group p components total current x.place slots memory trace ≡ rest env group p components total r ready.place slots' memory' trace'
  pub stops : 0 < r.end → rest env group p components total current x.place slots memory trace ≡ out (end_of r.end) (state_of p components memory' slots' trace' r)

-- at a command
pub record ExecJob (p : Bytes) (current : ProgramState) (vendor class answers slots : Bytes) (memory : List ℕ) (trace : Bytes) : Type 0 where
  pub env : Env
  pub group : Group
  pub components : ℕ
  pub total : ℕ
  pub ready : Ready env group p components total current vendor class answers slots memory trace
  pub before : current.n < total
  pub stands : get_or p (current.at + code_from) 0 ≡ JUMP → ⊥

-- which was done
pub record Executed (p : Bytes) (current : ProgramState) (vendor class answers slots : Bytes) (memory : List ℕ) (trace : Bytes)
    (j : ExecJob p current vendor class answers slots memory trace) (r : ProgramState) (slots' : Bytes) (memory' : List ℕ) (trace' : Bytes) : Type 0 where
  pub moved : Moved j.env j.group p j.components j.total current vendor class answers slots memory trace j.ready r slots' memory' trace'
  pub wrote : r.events ≡ current.events + 1
  pub further : current.n < r.n

-- at a record or at the end of them, with no end yet
pub record RunJob (p : Bytes) (total : ℕ) (current : ProgramState) (vendor class answers slots : Bytes) (memory : List ℕ) (trace : Bytes) : Type 0 where
  pub env : Env
  pub group : Group
  pub components : ℕ
  pub ready : Ready env group p components total current vendor class answers slots memory trace
  pub going : current.end ≡ end_number Finished

-- at a record
abbrev pub StepAsked : Bytes → ℕ → ProgramState → Bytes → Bytes → Bytes → Bytes → List ℕ → Bytes → Type 0
StepAsked p total current vendor class answers slots memory trace =
    RunJob p total current vendor class answers slots memory trace × (current.n < total)

-- of which a jump wrote no event, a command one
pub record Stepped (p : Bytes) (total : ℕ) (current : ProgramState) (vendor class answers slots : Bytes) (memory : List ℕ) (trace : Bytes)
    (j : RunJob p total current vendor class answers slots memory trace) (r : ProgramState) (slots' : Bytes) (memory' : List ℕ) (trace' : Bytes) : Type 0 where
  pub moved : Moved j.env j.group p j.components total current vendor class answers slots memory trace j.ready r slots' memory' trace'
  pub few : r.events ≤ current.events + 1
  pub late : 0 < r.end → r.events ≡ current.events + 1
  pub further : current.n < r.n

-- a run at the first record
abbrev pub start_at : ℕ → ProgramState
start_at from = record { at = from; n = 0; events = 0; used = 0; end = end_number Finished }

-- the run from the first record ended at r, as the rule says
pub record Ran (p : Bytes) (total from : ℕ) (vendor class answers slots : Bytes) (memory : List ℕ) (trace : Bytes)
    (j : RunJob p total (start_at from) vendor class answers slots memory trace) (r : ProgramState) (slots' : Bytes) (memory' : List ℕ) (trace' : Bytes) : Type 0 where
  pub goes : out (end_of r.end) (state_of p j.components memory' slots' trace' r) ≡ exec j.env j.ready.place.records 0 0 (state_at p j.components memory slots trace 0 0)
  pub late : 0 < r.end → 0 < r.events
  pub few : r.events ≤ limits.commands

-- what each function promises of what it is lent: for every job that it is asked for, the run was taken on as the rule says
abbrev pub Executes : Bytes → ProgramState → Bytes → Bytes → Bytes → Lent → Lent → Lent → ProgramState → Type 0
Executes p current vendor class answers slots memory trace r =
    (j : ExecJob p current vendor class answers (was slots) (was memory) (was trace)) →
    Executed p current vendor class answers (was slots) (was memory) (was trace) j r (left slots) (left memory) (left trace)

abbrev pub Steps : Bytes → ℕ → ProgramState → Bytes → Bytes → Bytes → Lent → Lent → Lent → ProgramState → Type 0
Steps p total current vendor class answers slots memory trace r =
    (j : StepAsked p total current vendor class answers (was slots) (was memory) (was trace)) →
    Stepped p total current vendor class answers (was slots) (was memory) (was trace) j.0 r
    (left slots) (left memory) (left trace)

abbrev pub RecordsRun : Bytes → ℕ → ℕ → Bytes → Bytes → Bytes → Lent → Lent → Lent → ProgramState → Type 0
RecordsRun p total from vendor class answers slots memory trace r =
    (j : RunJob p total (start_at from) vendor class answers (was slots) (was memory) (was trace)) →
    Ran p total from vendor class answers (was slots) (was memory) (was trace) j r
    (left slots) (left memory) (left trace)
