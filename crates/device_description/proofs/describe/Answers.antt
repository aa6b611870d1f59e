use mathlib.Core.Path.{refl, sym, ◌∙◌}
use native.Mathlib.Omega.{arith}
use native.Mathlib.Numerals.{add-one}
use lib.ListN.{length}
use Rattle.device_text.proofs.WordLaws.{lines_next, lines_end}
use Rattle.device_description.proofs.ScenarioLaws.{left-next, left_stop, left_end, left-start, took_slots, took_answers}
use Rattle.device_description.proofs.describe.Goals as goal

pub loop-at-init : goal.loop-at-init
loop-at-init c =
    (omega arith, omega arith, refl, refl, rw c.start-d.ensures (left-start (length c.args.slots.now) (length c.args.answers.now) c.args.text.now c.args.slots.now c.args.answers.now))

pub shape_of-slots-then-is_some : goal.shape_of-slots-then-is_some
shape_of-slots-then-is_some c = took_slots c.take_line-d.ensures ∙ c.loop-at.invariant.2

pub shape_of-answers-then-is_some : goal.shape_of-answers-then-is_some
shape_of-answers-then-is_some c = took_answers c.take_line-d.ensures ∙ c.loop-at.invariant.3

pub returns-then-is_some : goal.returns-then-is_some
returns-then-is_some c =
    let f = rw (lines_next c.args.text.now c.loop-at.at c.loop-at-test.true) at c.loop-at.invariant.4 in
    let t = rw (c.loop-at.invariant.2, c.loop-at.invariant.3, c.line_at.ensures) at c.take_line-d.ensures in
    left_stop _ _ _ _ _ _ _ _ _ _ _ _ _ _ f t (sym c.is_some.ensures ∙ c.if-is_some.true)

pub loop-at-smaller : goal.loop-at-smaller
loop-at-smaller c = omega (arith, c.next_line-at.ensures.2 (omega arith))

pub loop-at-preserved : goal.loop-at-preserved
loop-at-preserved c =
    let m = length c.args.slots.now in
    let k = length c.args.answers.now in
    let f = rw (lines_next c.args.text.now c.loop-at.at c.loop-at-test.true) at c.loop-at.invariant.4 in
    let t = rw (c.loop-at.invariant.2, c.loop-at.invariant.3, c.line_at.ensures) at c.take_line-d.ensures in (
      c.next_line-at.ensures.1,
      omega (arith, c.loop-at.invariant.1, c.next_line-at.ensures.2 c.loop-at-test.true),
      took_slots c.take_line-d.ensures ∙ c.loop-at.invariant.2,
      took_answers c.take_line-d.ensures ∙ c.loop-at.invariant.3,
      rw (c.next_line-at.ensures.0, add-one c.loop-at.n) (left-next _ _ _ _ _ _ _ _ _ _ _ _ _ _ f t (sym c.is_some.ensures ∙ c.if-is_some.false)),
    )

pub shape_of-slots : goal.shape_of-slots
shape_of-slots c = c.loop-at.invariant.2

pub shape_of-answers : goal.shape_of-answers
shape_of-answers c = c.loop-at.invariant.3

pub returns : goal.returns
returns c =
    let f = rw (lines_end c.args.text.now c.loop-at.at (omega arith)) at c.loop-at.invariant.4 in
    left_end _ _ _ _ _ _ _ _ _ f
