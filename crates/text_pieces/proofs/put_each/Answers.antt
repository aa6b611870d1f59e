use borrow.Author.Rules.{rules}
use Rattle.text.proofs.TextLaws.{wrote-length, each_next, each_all}
use Rattle.text_pieces.specs.Pieces.{spaced}
use Rattle.text_pieces.proofs.PieceLaws.{spaced-append, spaced-none}
use Rattle.text_pieces.proofs.put_each.Goals as goal

pub loop-b-init : goal.loop-b-init
loop-b-init c = spaced-none _ _

pub loop-b-preserved : goal.loop-b-preserved
loop-b-preserved c =
    each_next spaced spaced-append c.args.s.now c.loop-b.b-index (search rules) c.loop-b.invariant c.put_one-to.ensures

pub shape_of-room : goal.shape_of-room
shape_of-room c = wrote-length c.loop-b.invariant

pub returns : goal.returns
returns c = each_all spaced c.args.s.now c.loop-b.b-index (search rules) c.loop-b.invariant
