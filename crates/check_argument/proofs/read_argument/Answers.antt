use mathlib.Core.Path.{◌∙◌}
use Rattle.std.specs.Prelude.{Ok, Err}
use Rattle.cbor_reading.proofs.ReadingLaws.{handed, item-stopped, item_went}
use Rattle.check_argument.proofs.ArgumentLaws.{argument-sixteen, argument-nil, argument-index, argument-alternatives, argument_no_map, argument-parameters, argument-sequence}
use Rattle.check_argument.proofs.read_argument.Goals as goal

pub returns-in_err-nil-in-Nil : goal.returns-in_err-nil-in-Nil
returns-in_err-nil-in-Nil c = rw c.in-Nil.is (handed _ _ c.from_residual.ensures.1 ∙ argument-nil _ _ _ _ (Err _) c.in_err-nil-in-Nil.ensures)

pub returns-in_ok-nil-in-Nil : goal.returns-in_ok-nil-in-Nil
returns-in_ok-nil-in-Nil c = rw c.in-Nil.is (c.ended.ensures ∙ argument-nil _ _ _ _ (Ok _) c.in_ok-nil-in-Nil.ensures)

pub returns-in_err-h-in-Parameters : goal.returns-in_err-h-in-Parameters
returns-in_err-h-in-Parameters c =
    rw c.in-Parameters.is
    (handed _ _ c.from_residual-in_err-h-in-Parameters.ensures.1
    ∙ argument_no_map _ _ _ _ _ (item-stopped _ _ _ _ _ _ _ c.in_err-h-in-Parameters.ensures))

pub returns-in_ok-h-in-Parameters : goal.returns-in_ok-h-in-Parameters
returns-in_ok-h-in-Parameters c =
    rw c.in-Parameters.is (argument-parameters _ _ _ _ _ _ (item_went _ _ _ _ _ _ _ c.in_ok-h-in-Parameters.ensures) c.entries.ensures)

pub returns-in-Sixteen : goal.returns-in-Sixteen
returns-in-Sixteen c = rw c.in-Sixteen.is (argument-sixteen _ _ _ _ _ c.string.ensures)

pub returns-in-Index : goal.returns-in-Index
returns-in-Index c = rw c.in-Index.is (argument-index _ _ _ _ _ c.component.ensures)

pub returns-in-Alternatives : goal.returns-in-Alternatives
returns-in-Alternatives c = rw c.in-Alternatives.is (argument-alternatives _ _ _ _ _ c.item.ensures)

pub returns-in-Sequence : goal.returns-in-Sequence
returns-in-Sequence c = rw c.in-Sequence.is (argument-sequence _ _ _ _)
