use Prim.Native.Nat.{◌+◌, ◌*◌, ◌≤◌}
use native.Mathlib.Omega.{arith}
use lib.ListN.{length}
use borrow.Author.Rules.{rules}
use Rattle.rules.specs.Limits.{limits}
use Rattle.rules.specs.ProgramFormat.{start_size, record_size}
use Rattle.manifest_accessors.proofs.AcceptedLaws.{few, inside}
use Rattle.translate_size.specs.Size.{most}
use Rattle.translate.proofs.TranslateLaws.{ids_near, ids_short, here, total-small, too_short, names-fit, job, translated}
use Rattle.translate.proofs.translate_checked.Goals as goal
use Rattle.translate.proofs.translate_checked.Goals.{After-size_names-names}

-- the program's length, from where its parts were sized
small : (c : After-size_names-names) →
    start_size + c.size_names-names.result + record_size * c.size_plan-size.result.records + c.size_plan-size.result.arguments ≤ limits.program
small c =
    total-small _ _ _ _ _ c.requires c.args.group _ c.tables-table.ensures _ _ c.plan-total.ensures _ c.size_plan-size.ensures _ c.size_names-names.ensures

pub size_plan-size-requires : goal.size_plan-size-requires
size_plan-size-requires c =
    here _ _ _ _ _ c.requires c.args.group _ c.tables-table.ensures _ _ c.plan-total.ensures

pub size_names-names-requires : goal.size_names-names-requires
size_names-names-requires c =
    (few _ _ _ _ _ c.requires, ids_near _ _ _ _ _ c.requires)

pub overflow_add-length : goal.overflow_add-length
overflow_add-length c = omega (arith, small (goal.at.overflow_add-length c).After-size_names-names)

pub overflow_mul-length : goal.overflow_mul-length
overflow_mul-length c = omega (arith, small (goal.at.overflow_mul-length c).After-size_names-names)

pub overflow_add-length-2 : goal.overflow_add-length-2
overflow_add-length-2 c = omega (arith, small (goal.at.overflow_add-length-2 c).After-size_names-names)

pub overflow_add-length-3 : goal.overflow_add-length-3
overflow_add-length-3 c = omega (arith, small (goal.at.overflow_add-length-3 c).After-size_names-names)

pub returns-then-room-length : goal.returns-then-room-length
returns-then-room-length c =
    too_short _ _ _ _ _ c.requires c.args.group _ c.tables-table.ensures _ _ c.plan-total.ensures _ c.size_plan-size.ensures _
    c.size_names-names.ensures c.args.room.now c.if-room-length.true

pub put_start-requires : goal.put_start-requires
put_start-requires c =
    (omega (arith, c.if-room-length.false), omega (arith, few _ _ _ _ _ c.requires))

pub write_names-at-requires : goal.write_names-at-requires
write_names-at-requires c = (
  few _ _ _ _ _ c.requires,
  inside _ _ _ _ _ c.requires,
  ids_short _ _ _ _ _ c.requires,
  names-fit _ _ _ _ _ c.requires c.args.group _ c.tables-table.ensures _ _ c.plan-total.ensures _ c.size_plan-size.ensures _
      c.size_names-names.ensures c.args.room.now c.if-room-length.false _ c.put_start.ensures,
)

pub write_plan-requires : goal.write_plan-requires
write_plan-requires c =
    let near : length c.args.room.now ≤ most = search rules in
    job _ _ _ _ _ c.requires c.args.group _ c.tables-table.ensures _ _ c.plan-total.ensures _ c.size_plan-size.ensures _
    c.size_names-names.ensures c.args.room.now c.if-room-length.false _ c.put_start.ensures _ _
    c.write_names-at.ensures near

pub returns : goal.returns
returns c =
    let near : length c.args.room.now ≤ most = search rules in
    translated _ _ _ _ _ c.requires c.args.group _ c.tables-table.ensures _ _ c.plan-total.ensures _ c.size_plan-size.ensures _
    c.size_names-names.ensures c.args.room.now c.if-room-length.false _ c.put_start.ensures _ _
    c.write_names-at.ensures near _ c.write_plan.ensures
