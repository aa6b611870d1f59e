use mathlib.Core.Path.{sym}
use Rattle.std.proofs.lemmas.Result.{err_from_is_err_and}
use Rattle.rules.proofs.CborLaws.{one_of-refused, one_of-other, one_of-first, one_of_second}
use Rattle.cbor.proofs.read_one_of.Goals as goal
use Rattle.cbor.proofs.read_one_of.Goals.{else-h-kind-via-then-h-kind+else-h-other, else-h-kind-via-else-h-kind}

pub returns-in_err-h : goal.returns-in_err-h
returns-in_err-h c = let e = err_from_is_err_and c.from_residual.result c.from_residual.ensures.1 in rw (e.1, e.2) (sym (one_of-refused _ _ _ _ _ _ _ (sym c.in_err-h.ensures)))

pub returns-then-h-other : goal.returns-then-h-other
returns-then-h-other c = sym (one_of-other _ _ _ _ _ _ (sym c.in_ok-h.ensures) c.if-h-kind.true c.if-h-other.true)

pub returns : goal.returns
returns c =
    let whole = sym c.in_ok-h.ensures in
    elim c.else-h-kind.branch [
      | else-h-kind-via-then-h-kind+else-h-other w ↦ sym (one_of_second _ _ _ _ _ _ whole w.if-h-kind.true w.if-h-other.false)
      | else-h-kind-via-else-h-kind w ↦ sym (one_of-first _ _ _ _ _ _ whole w.if-h-kind.false)
    ]
