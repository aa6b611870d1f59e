use native.Mathlib.Omega.{arith}
use Rattle.translate_argument.proofs.FillLaws.{filled-length}
use Rattle.translate_record.proofs.RecordLaws.{leaf-code, leaf-small, leaf-fit, leaf_room, leaf-inside, leaf-wrote}
use Rattle.translate_record.proofs.record.put_command.Goals as goal

pub put_argument-end-requires : goal.put_argument-end-requires
put_argument-end-requires c =
    let r = c.read_one-a.ensures c.requires.argument in
    (r.within, leaf-fit _ _ _ _ _ _ c.requires _ r, r.sixteen, leaf-code _ _ _ _ _ _ c.requires _ r, leaf_room _ _ _ _ _ _ c.requires _ r, c.requires.rows)

pub target_of-requires : goal.target_of-requires
target_of-requires c = c.requires.rows

pub overflow_sub-end : goal.overflow_sub-end
overflow_sub-end c = omega (arith, c.put_argument-end.ensures.next)

pub put_head-requires : goal.put_head-requires
put_head-requires c =
    let r = c.read_one-a.ensures c.requires.argument in (
      omega (arith, filled-length _ _ _ _ _ c.put_argument-end.ensures, c.requires.enough),
      leaf-small _ _ _ _ _ _ c.requires _ r,
      omega (arith, leaf-inside _ _ _ _ _ _ c.requires _ r _ c.component-index.ensures, c.requires.components),
    )

pub overflow_add-result : goal.overflow_add-result
overflow_add-result c = omega (arith, c.requires.count)

pub returns : goal.returns
returns c =
    λ j.
    let r = c.read_one-a.ensures j.argument in
    leaf-wrote _ _ _ _ _ _ j _ r _ c.component-index.ensures _ _ c.target_of.ensures _ _ c.put_argument-end.ensures _ c.put_head.ensures _
    c.either.ensures
