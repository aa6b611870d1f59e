use mathlib.Core.Path.{sym, ◌∙◌}
use native.Mathlib.Omega.{arith}
use Rattle.cbor_reading.proofs.ReadingLaws.{handed, number-stopped, number_went, reading-stopped, reading_went, rest}
use Rattle.check_argument.proofs.ArgumentLaws.{known_some, known-none, entries_none, entries_stop, entries-low, entries_unknown, entries-bad, entries-more}
use Rattle.check_argument.proofs.entries.Goals as goal

pub returns-in_err-key : goal.returns-in_err-key
returns-in_err-key c =
    handed _ _ c.from_residual.ensures.1
    ∙ entries_stop _ _ _ _ _ _ _ (rest _ _ c.loop-test.true) _ (number-stopped _ _ _ _ c.in_err-key.ensures)
    ∙ sym c.loop.invariant

pub returns-then-key-low : goal.returns-then-key-low
returns-then-key-low c =
    c.refuse.ensures
    ∙ entries-low _ _ _ _ _ _ _ (rest _ _ c.loop-test.true) _ _ (number_went _ _ _ _ c.in_ok-key.ensures) (omega (arith, c.if-key-low.true))
    ∙ sym c.loop.invariant

pub returns-in_default : goal.returns-in_default
returns-in_default c =
    c.refuse-in_default.ensures
    ∙ entries_unknown _ _ _ _ _ _ _ (rest _ _ c.loop-test.true) _ _
    (number_went _ _ _ _ c.in_ok-key.ensures)
    (omega (arith, c.if-key-low.false))
    (known-none _ (sym c.look_up_parameter.ensures ∙ c.in_default.is))
    ∙ sym c.loop.invariant

pub returns-in_err-p : goal.returns-in_err-p
returns-in_err-p c =
    handed _ _ c.from_residual-in_err-p.ensures.1
    ∙ entries-bad _ _ _ _ _ _ _ (rest _ _ c.loop-test.true) _ _
    (number_went _ _ _ _ c.in_ok-key.ensures)
    (omega (arith, c.if-key-low.false))
    _ (known_some _ _ (sym c.look_up_parameter.ensures ∙ c.in-Some.is))
    _ (reading-stopped (λ g. 0) _ _ c.in_err-p.ensures)
    ∙ sym c.loop.invariant

pub loop-preserved : goal.loop-preserved
loop-preserved c =
    let v = reading_went (λ g. 0) _ _ c.in_ok-p.ensures in
    c.loop.invariant
    ∙ entries-more _ _ _ _ _ _ _ (rest _ _ c.loop-test.true) _ _
    (number_went _ _ _ _ c.in_ok-key.ensures)
    (omega (arith, c.if-key-low.false))
    _ (known_some _ _ (sym c.look_up_parameter.ensures ∙ c.in-Some.is))
    v.0 _ v.1

pub returns : goal.returns
returns c = c.ended.ensures ∙ entries_none _ _ _ _ _ _ (omega arith) ∙ sym c.loop.invariant
