use mathlib.Core.Path.{sym, ◌∙◌}
use native.Mathlib.Omega.{arith}
use Rattle.rules.proofs.SameLaws.{same_start}
use Rattle.byte_buffer.proofs.ByteLoops.{flag_end, flag_stop, flag_next}
use Rattle.byte_buffer.proofs.equal.Goals as goal
use Rattle.byte_buffer.proofs.equal.Goals.{then-a-i, else-a-i}

pub loop-k-init : goal.loop-k-init
loop-k-init c = same_start _ _ _ _ _

pub loop-k-preserved : goal.loop-k-preserved
loop-k-preserved c =
    c.loop-k.invariant
    ∙ elim c.if-a-i.branch [
      | then-a-i w ↦ flag_stop _ _ _ _ _ _ (omega arith) c.requires c.loop-k.same c.if-a-i.same w.if-a-i.true w.same-is
      | else-a-i w ↦ flag_next _ _ _ _ _ _ (omega arith) c.requires c.loop-k.same c.if-a-i.same w.if-a-i.false w.same-is
    ]

pub returns : goal.returns
returns c = sym (c.loop-k.invariant ∙ flag_end _ _ _ _ _ _ _ (omega arith))
