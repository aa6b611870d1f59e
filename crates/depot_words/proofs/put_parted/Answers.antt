use mathlib.Core.List.{map, map-append}
use Rattle.depot_words.specs.CommandLine.{parted}
use Rattle.text.proofs.TextLaws.{wrote_none, wrote-length, each_next, each_all}
use borrow.Author.Rules.{rules}
use Rattle.depot_words.proofs.put_parted.Goals as goal

pub loop-b-init : goal.loop-b-init
loop-b-init c = wrote_none _ _

pub loop-b-preserved : goal.loop-b-preserved
loop-b-preserved c =
    each_next (map parted) (map-append parted) c.args.line.now c.loop-b.b-index (search rules) c.loop-b.invariant (rw c.parted.ensures at c.put_byte-to.ensures)

pub shape_of-room : goal.shape_of-room
shape_of-room c =
    wrote-length c.loop-b.invariant

pub returns : goal.returns
returns c =
    each_all (map parted) c.args.line.now c.loop-b.b-index (search rules) c.loop-b.invariant
