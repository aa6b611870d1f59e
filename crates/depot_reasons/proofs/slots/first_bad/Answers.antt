use mathlib.Core.Path.{sym, ◌∙◌, ap}
use mathlib.Core.Bool.{not}
use native.Mathlib.Omega.{arith}
use Rattle.depot_reasons.proofs.ReasonLaws.{first-start, first_hit, first_next, first-end}
use Rattle.depot_reasons.proofs.slots.first_bad.Goals as goal

pub loop-k-init : goal.loop-k-init
loop-k-init c = first-start _ _

pub good_slot-requires : goal.good_slot-requires
good_slot-requires c = omega (arith, c.loop-k-test.true, c.requires)

pub returns-then-not-good_slot-clause-which : goal.returns-then-not-good_slot-clause-which
returns-then-not-good_slot-clause-which c =
    first_hit _ _ _ c.loop-k.invariant c.loop-k-test.true (ap not (sym c.good_slot.ensures ∙ c.if-not-good_slot.true))

pub loop-k-preserved : goal.loop-k-preserved
loop-k-preserved c =
    first_next _ _ _ c.loop-k.invariant c.loop-k-test.true (ap not (sym c.good_slot.ensures ∙ c.if-not-good_slot.false))

pub returns-clause-which : goal.returns-clause-which
returns-clause-which c = first-end _ _ _ c.loop-k.invariant c.loop-k-test.false
