use native.Mathlib.Omega.{arith}
use Rattle.text.proofs.TextLaws.{wrote-length}
use Rattle.conformance_format.proofs.FormatLaws.{used-none, used-more, used-same, format-none, format-next, format-all}
use Rattle.conformance_format.proofs.put_format.Goals as goal
use Rattle.conformance_format.proofs.put_format.Goals.{then-c-eq-PERCENT, else-c-eq-PERCENT}

pub loop-c-init : goal.loop-c-init
loop-c-init c = (omega arith, used-none _, format-none _ _ _ _)

pub loop-c-preserved : goal.loop-c-preserved
loop-c-preserved c =
    let w = format-next c.args.template.now c.args.numbers.now c.args.at c.args.room.now c.loop-c.c-index c.loop-c.k
    c.number_at.result c.loop-c.invariant.1 c.number_at.ensures c.loop-c.invariant.2 c.put_piece-to.ensures in
    elim c.if-c-eq-PERCENT.branch [
      | then-c-eq-PERCENT x ↦ (omega arith, rw x.k-is (used-more c.args.template.now c.loop-c.c-index c.loop-c.k c.loop-c.invariant.1 x.if-c-eq-PERCENT.true), w)
      | else-c-eq-PERCENT x ↦ (omega arith, rw x.k-is (used-same c.args.template.now c.loop-c.c-index c.loop-c.k c.loop-c.invariant.1 x.if-c-eq-PERCENT.false), w)
    ]

pub shape_of-room : goal.shape_of-room
shape_of-room c =
    wrote-length c.loop-c.invariant.2

pub returns : goal.returns
returns c =
    format-all c.args.template.now c.args.numbers.now c.args.at c.args.room.now c.loop-c.c-index (omega arith) c.loop-c.invariant.2
