use mathlib.Core.Path.{sym}
use native.Mathlib.Omega.{arith}
use Rattle.std.proofs.lemmas.Result.{err_from_is_err_and}
use Rattle.rules.proofs.CborLaws.{item_refused, item-other, item-low, item-high, item-got}
use Rattle.cbor.proofs.read_item.Goals as goal
use Rattle.cbor.proofs.read_item.Goals.{then-h-kind-via-then-h-kind, then-h-kind-via-else-h-kind+then-h-lo, then-h-kind-via-else-h-kind+else-h-lo+then-hi-h}

pub returns-in_err-h : goal.returns-in_err-h
returns-in_err-h c = let e = err_from_is_err_and c.from_residual.result c.from_residual.ensures.1 in rw (e.1, e.2) (sym (item_refused _ _ _ _ _ _ _ _ (sym c.in_err-h.ensures)))

pub returns-then-h-kind : goal.returns-then-h-kind
returns-then-h-kind c =
    let whole = sym c.in_ok-h.ensures in
    elim c.then-h-kind.branch [
      | then-h-kind-via-then-h-kind w ↦ sym (item-other _ _ _ _ _ _ _ whole w.if-h-kind.true)
      | then-h-kind-via-else-h-kind+then-h-lo w ↦ sym (item-low _ _ _ _ _ _ _ whole (omega arith) (omega arith))
      | then-h-kind-via-else-h-kind+else-h-lo+then-hi-h w ↦ sym (item-high _ _ _ _ _ _ _ whole (omega arith) (omega arith) (omega arith))
    ]

pub returns : goal.returns
returns c = sym (item-got _ _ _ _ _ _ _ (sym c.in_ok-h.ensures) (omega arith) (omega arith) (omega arith))
