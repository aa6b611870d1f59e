use mathlib.Core.Path.{sym, ◌∙◌}
use Rattle.depot_reasons.proofs.ReasonLaws.{first-start, first_hit, first_next, first-end}
use Rattle.depot_reasons.proofs.first_without.Goals as goal

pub loop-k-init : goal.loop-k-init
loop-k-init c = first-start _ _

pub returns-then-has_no_slot-clause-which : goal.returns-then-has_no_slot-clause-which
returns-then-has_no_slot-clause-which c =
    first_hit _ _ _ c.loop-k.invariant c.loop-k-test.true (sym c.has_no_slot.ensures ∙ c.if-has_no_slot.true)

pub loop-k-preserved : goal.loop-k-preserved
loop-k-preserved c =
    first_next _ _ _ c.loop-k.invariant c.loop-k-test.true (sym c.has_no_slot.ensures ∙ c.if-has_no_slot.false)

pub returns-clause-which : goal.returns-clause-which
returns-clause-which c = first-end _ _ _ c.loop-k.invariant c.loop-k-test.false
