use native.Mathlib.Omega.{arith}
use Rattle.device_text.proofs.WordLaws.{behind-none, behind-next, behind-all}
use Rattle.device_text.proofs.line.line_start.Goals as goal

pub loop-init : goal.loop-init
loop-init c = (omega arith, behind-none _)

pub loop-preserved : goal.loop-preserved
loop-preserved c =
    (omega arith, behind-next _ c.loop.at c.next_line-at.result c.loop.counter (omega arith) c.loop.invariant.1 c.next_line-at.ensures.0)

pub returns : goal.returns
returns c = behind-all _ c.loop.at _ _ (omega arith) c.loop.invariant.1
