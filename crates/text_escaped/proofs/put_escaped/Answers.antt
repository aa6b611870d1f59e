use borrow.Author.Rules.{rules}
use Rattle.text.proofs.TextLaws.{wrote-length, each_next, each_all}
use Rattle.text_escaped.specs.Escaped.{escaped}
use Rattle.text_escaped.proofs.EscapeLaws.{escaped-append, escaped-one, escaped-none}
use Rattle.text_escaped.proofs.put_escaped.Goals as goal

pub loop-b-init : goal.loop-b-init
loop-b-init c = escaped-none _ _

pub loop-b-preserved : goal.loop-b-preserved
loop-b-preserved c =
    each_next escaped escaped-append c.args.s.now c.loop-b.b-index (search rules) c.loop-b.invariant
    (rw (← escaped-one _) at c.put_escaped_byte-to.ensures)

pub shape_of-room : goal.shape_of-room
shape_of-room c = wrote-length c.loop-b.invariant

pub returns : goal.returns
returns c = each_all escaped c.args.s.now c.loop-b.b-index (search rules) c.loop-b.invariant
