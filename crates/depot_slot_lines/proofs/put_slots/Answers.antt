use native.Mathlib.Omega.{arith}
use borrow.Author.Rules.{rules}
use Rattle.text.proofs.TextLaws.{wrote-length}
use Rattle.text_pieces.proofs.PieceLaws.{lines_none, lines_next, lines-all}
use Rattle.depot_slot_lines.specs.SlotLines.{slots_text}
use Rattle.depot_slot_lines.proofs.put_slots.Goals as goal

pub loop-k-init : goal.loop-k-init
loop-k-init c = lines_none _ _ _

pub put_owned-to-requires : goal.put_owned-to-requires
put_owned-to-requires c = (omega (arith, c.loop-k-test.true), search rules)

pub loop-k-preserved : goal.loop-k-preserved
loop-k-preserved c =
    lines_next _ _ c.loop-k.invariant c.put_owned-to.ensures

pub shape_of-room : goal.shape_of-room
shape_of-room c = wrote-length c.loop-k.invariant

pub returns : goal.returns
unfolding slots_text
returns c = lines-all _ _ _ (search rules) (search rules) c.loop-k.invariant
