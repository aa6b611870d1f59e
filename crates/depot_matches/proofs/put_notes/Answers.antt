use native.Mathlib.Omega.{arith}
use Rattle.text.proofs.TextLaws.{wrote-length}
use Rattle.text_pieces.proofs.PieceLaws.{lines_none, lines_next, lines-all}
use borrow.Author.Rules.{rules}
use Rattle.depot_matches.proofs.put_notes.Goals as goal

pub loop-j-init : goal.loop-j-init
loop-j-init c = lines_none _ _ _

pub note_of-requires : goal.note_of-requires
note_of-requires c = omega (arith, c.loop-j-test.true)

pub loop-j-preserved : goal.loop-j-preserved
loop-j-preserved c =
    lines_next _ _ c.loop-j.invariant (rw (c.byte_of.ensures, c.note_of.ensures) at c.put_byte-to.ensures)

pub shape_of-notes : goal.shape_of-notes
shape_of-notes c = wrote-length c.loop-j.invariant

pub returns : goal.returns
returns c = lines-all _ _ _ (search rules) (search rules) c.loop-j.invariant
