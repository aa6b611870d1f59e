use borrow.Author.Rules.{rules}
use Rattle.text.specs.Text.{hex}
use Rattle.text.proofs.TextLaws.{wrote-length, each_next, each_all}
use Rattle.text_numbers.proofs.NumberLaws.{hex-append, hex-none}
use Rattle.text_numbers.proofs.put_hex.Goals as goal

pub loop-b-init : goal.loop-b-init
loop-b-init c = hex-none _ _

pub loop-b-preserved : goal.loop-b-preserved
loop-b-preserved c =
    each_next hex hex-append c.args.s.now c.loop-b.b-index (search rules) c.loop-b.invariant c.put_hex_byte-to.ensures

pub shape_of-room : goal.shape_of-room
shape_of-room c = wrote-length c.loop-b.invariant

pub returns : goal.returns
returns c = each_all hex c.args.s.now c.loop-b.b-index (search rules) c.loop-b.invariant
