use mathlib.Core.Path.{refl, sym, ◌∙◌}
use lib.Seq.{length-take-le}
use Rattle.depot_items.proofs.ItemLaws.{item_outside, item-read, item-next}
use Rattle.depot_items.proofs.look.Goals as goal

pub returns-then-s-e : goal.returns-then-s-e
returns-then-s-e c = c.nothing.ensures ∙ sym (item_outside _ _ _ c.if-s-e.true)

pub slice_bounds-head_at-end : goal.slice_bounds-head_at-end
slice_bounds-head_at-end c =
    sym (length-take-le c.args.e c.args.s.now c.if-s-e.false)

pub whole-requires : goal.whole-requires
whole-requires c = item-next _ _ _ c.if-s-e.false _ c.in-Ok.ensures _ refl

pub returns-in-Ok : goal.returns-in-Ok
returns-in-Ok c = c.whole.ensures ∙ sym (item-read _ _ _ c.if-s-e.false _ c.in-Ok.ensures)

pub returns-in-Err : goal.returns-in-Err
returns-in-Err c = c.nothing-in-Err.ensures ∙ sym (item-read _ _ _ c.if-s-e.false _ c.in-Err.ensures)
