use Rattle.rules.specs.Limits.{section_count}
use Rattle.text.proofs.TextLaws.{wrote-length}
use Rattle.text_pieces.proofs.PieceLaws.{lines_none, lines_next, lines-all}
use Rattle.depot_show.specs.Manifest.{sections_text}
use borrow.Author.Rules.{rules}
use Rattle.depot_show.proofs.put_sections.Goals as goal

pub loop-j-init : goal.loop-j-init
loop-j-init c = lines_none _ _ _

pub loop-j-preserved : goal.loop-j-preserved
loop-j-preserved c =
    lines_next _ _ c.loop-j.invariant (rw c.section_key.ensures at c.put_section-to.ensures)

pub shape_of-room : goal.shape_of-room
shape_of-room c = wrote-length c.loop-j.invariant

pub returns : goal.returns
unfolding sections_text
returns c = lines-all _ _ section_count (search rules) (search rules) c.loop-j.invariant
