use mathlib.Core.Path.{sym}
use native.Mathlib.Omega.{arith}
use Rattle.std.proofs.lemmas.Result.{err_from_is_err_and}
use Rattle.rules.proofs.CheckLaws.{head_bounds}
use Rattle.rules.proofs.CborLaws.{whole-refused, whole_past, whole-got}
use Rattle.cbor.proofs.read_whole.Goals as goal

pub returns-in_err-h : goal.returns-in_err-h
returns-in_err-h c = let e = err_from_is_err_and c.from_residual.result c.from_residual.ensures.1 in rw (e.1, e.2) (sym (whole-refused _ _ _ _ _ (sym c.in_err-h.ensures)))

pub overflow_sub-left : goal.overflow_sub-left
overflow_sub-left c = omega (arith, head_bounds _ _ _ _ (sym c.in_ok-h.ensures))

pub returns-then-left-content : goal.returns-then-left-content
returns-then-left-content c =
    sym
    (whole_past _ _ _ _ (sym c.in_ok-h.ensures)
    (omega (arith, head_bounds _ _ _ _ (sym c.in_ok-h.ensures), c.content.ensures c.in_ok-h.h.next)))

pub returns : goal.returns
returns c =
    sym
    (whole-got _ _ _ _ (sym c.in_ok-h.ensures)
    (omega (arith, head_bounds _ _ _ _ (sym c.in_ok-h.ensures), c.content.ensures c.in_ok-h.h.next)))
