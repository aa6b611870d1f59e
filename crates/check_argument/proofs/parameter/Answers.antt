use mathlib.Core.Path.{◌∙◌}
use Rattle.std.specs.Prelude.{Ok, Err}
use Rattle.cbor_reading.proofs.ReadingLaws.{handed}
use Rattle.check_argument.proofs.ArgumentLaws.{parameter-coerce, parameter-uri, parameter-digest, parameter-size}
use Rattle.check_argument.proofs.parameter.Goals as goal

pub returns-in_err-one_of-in-Coerce : goal.returns-in_err-one_of-in-Coerce
returns-in_err-one_of-in-Coerce c =
    rw c.in-Coerce.is (handed _ _ c.from_residual.ensures.1 ∙ parameter-coerce _ _ _ _ (Err _) c.in_err-one_of-in-Coerce.ensures)

pub returns-in_ok-one_of-in-Coerce : goal.returns-in_ok-one_of-in-Coerce
returns-in_ok-one_of-in-Coerce c = rw c.in-Coerce.is (c.ended.ensures ∙ parameter-coerce _ _ _ _ (Ok _) c.in_ok-one_of-in-Coerce.ensures)

pub returns-in-Uri : goal.returns-in-Uri
returns-in-Uri c = rw c.in-Uri.is (parameter-uri _ _ _ _ _ c.string.ensures)

pub returns-in-Digest : goal.returns-in-Digest
returns-in-Digest c = rw c.in-Digest.is (parameter-digest _ _ _ _ _ c.string-in-Digest.ensures)

pub returns-in_err-number-in-Size : goal.returns-in_err-number-in-Size
returns-in_err-number-in-Size c =
    rw c.in-Size.is
    (handed _ _ c.from_residual-in_err-number-in-Size.ensures.1 ∙ parameter-size _ _ _ _ (Err _) c.in_err-number-in-Size.ensures)

pub returns-in_ok-number-in-Size : goal.returns-in_ok-number-in-Size
returns-in_ok-number-in-Size c = rw c.in-Size.is (c.ended-in-Size.ensures ∙ parameter-size _ _ _ _ (Ok _) c.in_ok-number-in-Size.ensures)
