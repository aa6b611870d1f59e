use mathlib.Core.Path.{sym, ◌∙◌}
use mathlib.Core.Logic.{inl, inr}
use native.Mathlib.Omega.{arith}
use Rattle.depot_parts.proofs.SeekLaws.{no_items, more_items}
use Rattle.depot_parts.proofs.seek.items_end.Goals as goal

pub returns-then-e-next : goal.returns-then-e-next
returns-then-e-next c = no_items _ _ _ _ (inl c.if-e-next.true) ∙ c.loop.invariant

pub loop-preserved : goal.loop-preserved
loop-preserved c =
    rw c.look-next.ensures (sym (more_items _ _ _ _ _ (omega arith) c.if-e-next.false) ∙ c.loop.invariant)

pub returns : goal.returns
returns c = no_items _ _ _ _ (inr (omega arith)) ∙ c.loop.invariant
