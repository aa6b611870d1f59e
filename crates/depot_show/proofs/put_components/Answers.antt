use Rattle.text.proofs.TextLaws.{wrote-length}
use Rattle.text_pieces.proofs.PieceLaws.{lines_none, lines_next, lines-all}
use Rattle.depot_show.specs.Manifest.{components_text}
use borrow.Author.Rules.{rules}
use Rattle.depot_show.proofs.put_components.Goals as goal

pub loop-k-init : goal.loop-k-init
unfolding components_text
loop-k-init c = lines_none _ _ _

pub loop-k-preserved : goal.loop-k-preserved
unfolding components_text
loop-k-preserved c =
    lines_next _ _ c.loop-k.invariant c.put_component-to.ensures

pub shape_of-room : goal.shape_of-room
shape_of-room c =
    wrote-length c.loop-k.invariant

pub returns : goal.returns
unfolding components_text
returns c = lines-all _ _ _ (search rules) (search rules) c.loop-k.invariant
