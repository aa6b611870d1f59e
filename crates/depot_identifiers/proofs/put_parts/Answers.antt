use Rattle.depot_identifiers.proofs.IdentifierLaws.{rest-start, rest-length, rest_more, rest-done, parts_none, parts_next}
use Rattle.depot_items.proofs.ItemLaws.{lies_of}
use Rattle.depot_identifiers.proofs.put_parts.Goals as goal

pub loop-left-init : goal.loop-left-init
loop-left-init c = rest-start _ _ _

pub slice_bounds-put_one-count : goal.slice_bounds-put_one-count
slice_bounds-put_one-count c = (lies_of _ _ _ _ _ c.want-i.ensures).0

pub slice_bounds-put_one-start : goal.slice_bounds-put_one-start
slice_bounds-put_one-start c = (lies_of _ _ _ _ _ c.want-i.ensures).0

pub slice_bounds-put_one-end : goal.slice_bounds-put_one-end
slice_bounds-put_one-end c = (lies_of _ _ _ _ _ c.want-i.ensures).1

pub loop-left-preserved : goal.loop-left-preserved
loop-left-preserved c =
    rw c.want-i.ensures (rest_more c.loop-left.invariant (parts_next _ _ _ c.loop-left-test.true) (rw c.want-i.ensures at c.put_one-to.ensures))

pub shape_of-room : goal.shape_of-room
shape_of-room c = rest-length c.loop-left.invariant

pub returns : goal.returns
returns c = rest-done c.loop-left.invariant (parts_none _ _ _ c.loop-left-test.false)
