use mathlib.Core.Path.{refl, sym, ◌∙◌}
use native.Mathlib.Omega.{arith}
use lib.ListN.{length}
use Rattle.rules.specs.Slots.{answer_bytes}
use Rattle.device_description.specs.Scenario as Rule
use Rattle.device_description.proofs.ScenarioLaws.{room_for}
use Rattle.device_description.proofs.answer_line.Goals as goal

pub returns-then-not-fits : goal.returns-then-not-fits
unfolding Rule.answer_line
returns-then-not-fits c =
    rw (← c.is_answer.ensures, sym c.fits.ensures ∙ c.if-not-fits.true) (c.refuse.ensures, refl)

pub overflow_add-d : goal.overflow_add-d
overflow_add-d c =
    omega (arith, room_for c.is_answer.result c.args.d.answers answer_bytes (length c.args.answers.now) c.fits.result c.fits.ensures c.if-not-fits.false)

pub returns : goal.returns
unfolding Rule.answer_line
returns c =
    rw (← c.is_answer.ensures, sym c.fits.ensures ∙ c.if-not-fits.false) (refl, c.put_answer.ensures.filled)
