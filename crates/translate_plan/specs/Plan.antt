-- The sequences of a plan, sized, and written one after the other.
use Rattle.std.specs.Prelude.{ℕ, ◌+◌, ◌*◌, ◌≤◌, ◌<◌, ◌≡◌, List, length}
use Rattle.rules.specs.Lent.{Lent, was, left}
use Rattle.rules.specs.Bytes.{Bytes, put}
use Rattle.rules.specs.Limits.{limits}
use Rattle.rules.specs.ProgramFormat.{record_size}
use Rattle.rules.specs.Program.{flat_all}
use Rattle.rules.specs.Tables.{by_number}
use Rattle.rules.specs.Manifest.{Seq}
use Rattle.rules.specs.ProgramSize.{size_all, arg_size_all}
use Rattle.manifest_plan.specs.Standing.{Left}
use Rattle.translate_size.specs.declared.sizes.Size.{Size}
use Rattle.translate_record.specs.Record.{written}
use Rattle.translate_size.specs.Size.{most}

-- the plan whose sequences start there, as check read them, of a size that can be counted; and the lent table
pub record PlanHere (s : Bytes) (table starts : List ℕ) (total : ℕ) : Type 0 where
  pub rows : table ≡ by_number
  pub n : ℕ
  pub plan : List Seq
  pub left : Left s n starts total 0 0 plan
  pub small : size_all plan + arg_size_all plan ≤ most

-- the size of the plan; several sequences have no place after them
pub record PlanSized (plan : List Seq) (r : Size) : Type 0 where
  pub records : r.records ≡ size_all plan
  pub arguments : r.arguments ≡ arg_size_all plan
  pub next : r.next ≡ 0

-- and room for its records, which a program may have
pub record PlanJob (s : Bytes) (table starts : List ℕ) (total to : ℕ) (room : Bytes) : Type 0 where
  pub here : PlanHere s table starts total
  pub some : 0 < here.n
  pub components : here.n ≤ limits.components
  pub few : size_all here.plan ≤ limits.records
  pub enough : to + record_size * size_all here.plan + arg_size_all here.plan ≤ length room
  pub small : length room ≤ most

-- for every such job: the records of the plan were written from `to` on
abbrev pub PlanWrites : Bytes → Bytes → Bytes → ℕ → ℕ → Lent → Type 0
PlanWrites s table starts total to room =
    (j : PlanJob s table starts total to (was room)) → left room ≡ put (was room) to (written (flat_all j.here.plan 0))
