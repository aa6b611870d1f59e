use mathlib.Core.Path.{refl, sym, ◌∙◌}
use native.Mathlib.Omega.{arith}
use lib.ListN.{length}
use Rattle.rules.specs.Slots.{slot_bytes}
use Rattle.device_description.specs.Scenario as Rule
use Rattle.device_description.proofs.ScenarioLaws.{room_for}
use Rattle.device_description.proofs.slot_line.Goals as goal

pub returns-then-not-fits : goal.returns-then-not-fits
unfolding Rule.slot_line
returns-then-not-fits c =
    rw (← c.is_slot.ensures, sym c.fits.ensures ∙ c.if-not-fits.true) (c.refuse.ensures, refl)

pub overflow_add-d : goal.overflow_add-d
overflow_add-d c =
    omega (arith, room_for c.is_slot.result c.args.d.slots slot_bytes (length c.args.slots.now) c.fits.result c.fits.ensures c.if-not-fits.false)

pub returns : goal.returns
unfolding Rule.slot_line
returns c =
    rw (← c.is_slot.ensures, sym c.fits.ensures ∙ c.if-not-fits.false) (refl, c.put_slot.ensures.filled)
