use native.Mathlib.Omega.{arith}
use Rattle.text_pieces.proofs.PieceLaws.{between_none, between_past, between-least}
use Rattle.text_pieces.proofs.within.Goals as goal
use Rattle.text_pieces.proofs.within.Goals.{then-to-from-via-then-to-from, then-to-from-via-else-to-from+then-end-from}

pub returns-then-to-from : goal.returns-then-to-from
returns-then-to-from c = (
  omega arith,
  omega arith,
  elim c.then-to-from.branch [
    | then-to-from-via-then-to-from w ↦ between_none c.args.s.now c.args.from c.args.to w.if-to-from.true
    | then-to-from-via-else-to-from+then-end-from w ↦ between_past c.args.s.now c.args.from c.args.to w.if-end-from.true
  ],
)

pub returns : goal.returns
returns c =
    (omega arith, omega arith, between-least c.args.s.now c.args.from c.args.to c.min-to.result c.min-to.ensures)
