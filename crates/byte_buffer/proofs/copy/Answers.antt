use mathlib.Core.Path.{refl, sym, ◌∙◌}
use native.Mathlib.Omega.{arith}
use borrow.Author.Rules.{rules}
use lib.ListN.{length-set}
use Rattle.byte_buffer.proofs.ByteLoops.{put-start, part-next, put-end}
use Rattle.rules.proofs.BytesLaws.{length_part}
use Rattle.byte_buffer.proofs.copy.Goals as goal

pub loop-i-init : goal.loop-i-init
loop-i-init c = (refl, put-start _ _ _)

pub loop-i-preserved : goal.loop-i-preserved
loop-i-preserved c =
    (simp length-set (search rules), c.loop-i.invariant.1 ∙ part-next c.args.s.now c.args.from c.args.n _ _ c.loop-i.i (omega arith) (omega arith))

pub returns : goal.returns
returns c =
    sym (c.loop-i.invariant.1 ∙ put-end _ _ _ _ (omega (arith, length_part c.args.s.now c.args.from c.args.n (omega arith))))
