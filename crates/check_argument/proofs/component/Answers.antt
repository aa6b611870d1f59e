use mathlib.Core.Path.{◌∙◌}
use native.Mathlib.Omega.{arith}
use Rattle.cbor_reading.proofs.ReadingLaws.{handed, number-stopped, number_went}
use Rattle.check_argument.proofs.ArgumentLaws.{index_stop, index_large, index_below}
use Rattle.check_argument.proofs.component.Goals as goal

pub returns-in_err-k : goal.returns-in_err-k
returns-in_err-k c = handed _ _ c.from_residual.ensures.1 ∙ index_stop _ _ _ _ _ (number-stopped _ _ _ _ c.in_err-k.ensures)

pub returns-then-components-k : goal.returns-then-components-k
returns-then-components-k c =
    c.refuse.ensures
    ∙ index_large _ _ _ _ _ _ (number_went _ _ _ _ c.in_ok-k.ensures) (omega (arith, c.if-components-k.true))

pub returns : goal.returns
returns c =
    c.ended.ensures
    ∙ index_below _ _ _ _ _ _ (number_went _ _ _ _ c.in_ok-k.ensures) (omega (arith, c.if-components-k.false))
