-- The command of a record, and what it leaves in lent memory.
use Rattle.std.specs.Prelude.{ℕ, ◌+◌, ◌%◌, ◌≤◌, ◌<◌, ◌≡◌, List, length}
use Rattle.std.proofs.Math.Option.{some}
use Rattle.rules.specs.Bytes.{Bytes, part, two_at}
use Rattle.rules.specs.Commands.{Op, Row, row_of, commands}
use Rattle.rules.specs.Got.{got}
use Rattle.rules.specs.Lent.{Lent, was}
use Rattle.rules.specs.Limits.{limits}
use Rattle.rules.specs.ProgramFormat.{argument_from, record_size}
use Rattle.rules.specs.ProgramTest.{op_in}
use Rattle.rules.specs.Slots.{answer_bytes}
use Rattle.run_slots.specs.Params.{FitAll}
use Rattle.run_actions.specs.Action.{AllHold}
use Rattle.run_commands.specs.Performed.{Acts}
use Rattle.program_commands.specs.declared.CommandRecord.{CommandRecord}
use Rattle.program_commands.specs.declared.RecordEffect.{RecordEffect}

-- the place after the record at `at`
abbrev pub next_record : Bytes → ℕ → ℕ
next_record p at = at + record_size + two_at p (at + argument_from)

-- a command as the program test read it, at one of the components; the memory is that of a run
pub record ActJob (p : Bytes) (x : CommandRecord) (answers slots : Bytes) (memory : List ℕ) : Type 0 where
  pub components : ℕ
  pub row : Row
  pub listed : row_of x.code commands ≡ some row
  pub op : Op
  pub reads : op_in components x.index row.form (part p (x.at + record_size) (two_at p (x.at + argument_from))) ≡ got op
  pub room : next_record p x.at ≤ length p
  pub inside : x.index < limits.components
  pub hold : AllHold memory slots
  pub fit : FitAll p limits.components memory
  pub answered : length answers % answer_bytes ≡ 0

-- it was done, and the next record is behind its argument
abbrev pub ActsOn : Bytes → CommandRecord → Bytes → Bytes → Bytes → Lent → Lent → RecordEffect → Type 0
ActsOn p x vendor class answers slots memory r =
    (j : ActJob p x answers (was slots) (was memory)) →
    (r.next ≡ next_record p x.at)
    × Acts p j.op x.index x.used (λ n. n ≡ j.components) vendor class answers slots memory (record { used = r.used; end = r.end })
