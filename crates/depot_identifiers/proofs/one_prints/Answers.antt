use mathlib.Core.Path.{sym, ◌∙◌}
use native.Mathlib.Omega.{arith}
use Rattle.depot_identifiers.proofs.IdentifierLaws.{prints-none, prints-here, prints-next}
use Rattle.depot_items.proofs.ItemLaws.{lies_of}
use Rattle.depot_identifiers.proofs.one_prints.Goals as goal

pub slice_bounds-prints_whole-count : goal.slice_bounds-prints_whole-count
slice_bounds-prints_whole-count c = (lies_of _ _ _ _ _ c.want-i.ensures).0

pub slice_bounds-prints_whole-start : goal.slice_bounds-prints_whole-start
slice_bounds-prints_whole-start c = (lies_of _ _ _ _ _ c.want-i.ensures).0

pub slice_bounds-prints_whole-end : goal.slice_bounds-prints_whole-end
slice_bounds-prints_whole-end c = (lies_of _ _ _ _ _ c.want-i.ensures).1

pub returns-then-prints_whole : goal.returns-then-prints_whole
returns-then-prints_whole c =
    sym (c.loop.invariant ∙ prints-here _ _ _ (omega arith) (sym (rw c.want-i.ensures at c.prints_whole.ensures) ∙ c.if-prints_whole.true))

pub loop-preserved : goal.loop-preserved
loop-preserved c =
    rw c.want-i.ensures (c.loop.invariant ∙ prints-next _ _ _ _ (omega arith) (sym (rw c.want-i.ensures at c.prints_whole.ensures) ∙ c.if-prints_whole.false))

pub returns : goal.returns
returns c = sym (c.loop.invariant ∙ prints-none _ _ _ (omega arith))
