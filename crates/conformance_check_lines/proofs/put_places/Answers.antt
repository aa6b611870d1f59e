use borrow.Author.Rules.{rules}
use native.Mathlib.Omega.{arith}
use Rattle.text.proofs.TextLaws.{wrote-length}
use Rattle.text_pieces.proofs.PieceLaws.{lines_none, lines_next, lines-all}
use Rattle.conformance_check_lines.specs.CheckLines.{places_text}
use Rattle.conformance_check_lines.proofs.put_places.Goals as goal

pub loop-k-init : goal.loop-k-init
loop-k-init c = lines_none _ _ _

pub put_place-to-requires : goal.put_place-to-requires
put_place-to-requires c = omega (arith, c.least-k-end.ensures)

pub loop-k-preserved : goal.loop-k-preserved
loop-k-preserved c =
    lines_next _ _ c.loop-k.invariant c.put_place-to.ensures

pub shape_of-room : goal.shape_of-room
shape_of-room c = wrote-length c.loop-k.invariant

pub returns : goal.returns
unfolding places_text
returns c = rw (← c.least-k-end.ensures) (lines-all _ _ _ (search rules) (search rules) c.loop-k.invariant)
