use mathlib.Core.Path.{refl, sym, ◌∙◌}
use native.Mathlib.Omega.{arith}
use borrow.Author.Rules.{rules}
use lib.ListN.{length-set}
use Rattle.rules.specs.Slots.{put_image}
use Rattle.byte_buffer.proofs.ByteLoops.{put-start, put_next, put-end}
use Rattle.run_slots.proofs.image.put_image.Goals as goal

pub loop-i-init : goal.loop-i-init
loop-i-init c = (refl, put-start _ _ _)

pub loop-i-preserved : goal.loop-i-preserved
loop-i-preserved c = (simp length-set (search rules), c.loop-i.invariant.1 ∙ put_next _ _ _ _ (omega arith))

pub returns : goal.returns
unfolding put_image
returns c = sym (c.loop-i.invariant.1 ∙ put-end _ _ _ _ (omega arith))
