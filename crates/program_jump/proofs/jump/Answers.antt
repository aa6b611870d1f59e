use native.Mathlib.Omega.{arith}
use Rattle.program_jump.proofs.JumpLaws.{jump-room, jump-forward, jump_advances, jumped}
use Rattle.program_jump.proofs.jump.Goals as goal

pub two-target-requires : goal.two-target-requires
two-target-requires c = omega (arith, jump-room _ _ _ c.requires)

pub overflow_add-n : goal.overflow_add-n
overflow_add-n c = omega (arith, jump-forward _ _ _ c.requires _ c.two-target.ensures.0)

pub advance-requires : goal.advance-requires
advance-requires c = jump_advances _ _ _ c.requires _ c.two-target.ensures.0

pub returns : goal.returns
returns c = λ j.
    jumped _ _ _ j _ c.two-target.ensures.0 _ (c.advance.ensures (jump_advances _ _ _ j _ c.two-target.ensures.0))
