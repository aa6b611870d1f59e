use mathlib.Core.Path.{◌≡◌}
use borrow.Author.Rules.{rules}
use Rattle.text.proofs.TextLaws.{wrote_none, wrote-again, wrote-length}
use Rattle.text.proofs.put_times.Goals as goal

pub loop-init : goal.loop-init
loop-init c = wrote_none _ _

pub loop-preserved : goal.loop-preserved
loop-preserved c = wrote-again _ c.loop.counter c.loop.invariant c.put_byte-to.ensures

pub shape_of-room : goal.shape_of-room
shape_of-room c = wrote-length c.loop.invariant

pub returns : goal.returns
returns c =
    let e : c.loop.counter ≡ c.args.n = search rules in
    rw e at c.loop.invariant
