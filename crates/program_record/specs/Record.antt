-- One record of a command, by the places of a program's bytes.
use Rattle.std.specs.Prelude.{ℕ, ◌+◌, ◌-◌, true, false, ◌&&◌, ◌||◌, eqb, ltb, leb, get_or, drop}
use Rattle.rules.specs.declared.answers.Group.{Group}
use Rattle.rules.specs.declared.answers.Refusal.TheVariants.{BadProgram}
use Rattle.rules.specs.Bytes.{Bytes, part, num}
use Rattle.rules.specs.Commands as Rules
use Rattle.rules.specs.Got.{Got, got, found, ◌>>=◌}
use Rattle.rules.specs.Program.{Rec, does, jump, target_of}
use Rattle.rules.specs.ProgramFormat.{NONE, code_from, component_from, place_from, target_from, record_size}
use Rattle.rules.specs.Tables.{codes}
use Rattle.rules.specs.ProgramTest.{need, op_in, group_allows}
use Rattle.program_heads.specs.Heads.{next_at, record_fits, jump_fits}

-- its command, with an argument up to `to`
unfoldable pub command_at : Group → ℕ → ℕ → ℕ → Bytes → ℕ → ℕ → Got Rules.Op
command_at g comps total n p at to = do
  row ← found (Rules.row_of (get_or p (at + code_from) 0) Rules.commands) BadProgram 0
  _ ← need (group_allows g row.allowed)
  _ ← need (ltb (get_or p (at + component_from) 0) comps)
  op ← op_in comps (get_or p (at + component_from) 0) row.form (part p (at + record_size) (to - (at + record_size)))
  let target = num (part p (at + target_from) 2)
  _ ← need (eqb target NONE || eqb (target_of op target) target && (ltb n target && leb target total))
  got op

-- the record, and the bytes after it: a command where its code is one of the table's, else a jump
unfoldable pub record_at : Group → ℕ → ℕ → ℕ → Bytes → ℕ → Got (Rec × Bytes)
record_at g comps total n p at = do
  _ ← need (record_fits p at)
  let next = next_at p at
  let target = num (part p (at + target_from) 2)
  elim (ltb (get_or p (at + code_from) 0) codes) [
    | true ↦ do
      op ← command_at g comps total n p at next
      got (does op (get_or p (at + component_from) 0) (num (part p (at + place_from) 2)) target, drop next p)
    | false ↦ do
      _ ← need (jump_fits p at next total n)
      got (jump target, drop next p)
  ]
