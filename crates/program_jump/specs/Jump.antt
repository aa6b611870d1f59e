-- The way through a program's records.
use Rattle.std.specs.Prelude.{ℕ, ◌+◌, ◌-◌, ◌≤◌, ◌<◌, ◌≡◌, List, [], length, get_or, drop}
use Rattle.rules.specs.declared.answers.Group.{Group}
use Rattle.rules.specs.Bytes.{Bytes}
use Rattle.rules.specs.Got.{got}
use Rattle.rules.specs.Program.{Rec}
use Rattle.rules.specs.ProgramFormat.{JUMP, code_from}
use Rattle.rules.specs.ProgramRun.{exec}
use Rattle.rules.specs.ProgramTest.{records_in, non_jumps}
use Rattle.rules.specs.Step.{Env, State}
use Rattle.program_jump.specs.declared.RecordPlace.{RecordPlace}

-- the records from number n on, at `at`, as the program test read them
pub record RecordsAt (p : Bytes) (group : Group) (components total n at : ℕ) : Type 0 where
  pub records : List Rec
  pub below : n ≤ total
  pub fits : at ≤ length p
  pub reads : records_in group components total (total - n) n (drop at p) ≡ got (records, [])

-- record t, from record n at `at`
pub record AdvanceJob (p : Bytes) (at n t : ℕ) : Type 0 where
  pub group : Group
  pub components : ℕ
  pub total : ℕ
  pub place : RecordsAt p group components total n at
  pub forward : n ≤ t
  pub within : t ≤ total

-- it is at r, where those of x from it on stand
pub record Advanced (p : Bytes) (group : Group) (components total n at : ℕ) (x : RecordsAt p group components total n at) (t r : ℕ) : Type 0 where
  pub place : RecordsAt p group components total t r
  pub records : place.records ≡ drop (t - n) x.records

-- record n at `at`, which is a jump
pub record JumpJob (p : Bytes) (at n : ℕ) : Type 0 where
  pub group : Group
  pub components : ℕ
  pub total : ℕ
  pub place : RecordsAt p group components total n at
  pub before : n < total
  pub stands : get_or p (at + code_from) 0 ≡ JUMP

-- a run goes on at r, a later record or the end, with nothing done
pub record Jumped (p : Bytes) (at n : ℕ) (j : JumpJob p at n) (r : RecordPlace) : Type 0 where
  pub place : RecordsAt p j.group j.components j.total r.n r.at
  pub further : n < r.n
  pub few : non_jumps place.records ≤ non_jumps j.place.records
  pub goes : (env : Env) (st : State) → exec env j.place.records n 0 st ≡ exec env place.records r.n 0 st
