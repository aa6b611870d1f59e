use native.Mathlib.Omega.{arith}
use Rattle.depot_argument_lines.proofs.ItemLaws.{size_past, size-whole, sized-of, sized-zero}
use Rattle.depot_argument_lines.proofs.size_in.Goals as goal

pub returns-then-s-head-clause-size : goal.returns-then-s-head-clause-size
returns-then-s-head-clause-size c =
    sized-zero _ (size_past c.args.s.now c.args.head c.args.more (omega arith) (omega arith))

pub returns-clause-size : goal.returns-clause-size
returns-clause-size c =
    sized-of _ _ (size-whole c.args.s.now c.args.head c.args.more (omega arith)) (omega arith)
