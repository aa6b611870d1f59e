use borrow.Author.Rules.{rules}
use native.Mathlib.Omega.{arith}
use Rattle.text.proofs.TextLaws.{wrote-length}
use Rattle.text_pieces.proofs.PieceLaws.{lines_none, lines_next, lines-all}
use Rattle.depot_events.proofs.put_each.Goals as goal

pub loop-k-init : goal.loop-k-init
loop-k-init c = lines_none _ _ _

pub put_event-to-requires : goal.put_event-to-requires
put_event-to-requires c = omega (arith, c.loop-k-test.true)

pub loop-k-preserved : goal.loop-k-preserved
loop-k-preserved c =
    lines_next _ _ c.loop-k.invariant c.put_event-to.ensures

pub shape_of-room : goal.shape_of-room
shape_of-room c = wrote-length c.loop-k.invariant

pub returns : goal.returns
returns c = lines-all _ _ _ (search rules) (search rules) c.loop-k.invariant
