use mathlib.Core.Path.{sym}
use native.Mathlib.Omega.{arith}
use Rattle.rules.specs.Check.{unread}
use Rattle.cbor_reading.proofs.ReadingLaws.{handed}
use Rattle.check_envelope.proofs.OuterLaws.{unread-fits, unread-bytes, unread-nil}
use Rattle.check_envelope.proofs.outer.unread.Goals as goal

pub returns-in_err-h : goal.returns-in_err-h
unfolding unread
returns-in_err-h c = rw (handed _ _ c.from_residual.ensures.1, ← c.in_err-h.ensures)

pub overflow_add-result : goal.overflow_add-result
overflow_add-result c = omega (arith, unread-fits _ _ _ _ (sym c.in_ok-h.ensures) c.if-h-eq-BYTES.true)

pub returns-then-h-eq-BYTES : goal.returns-then-h-eq-BYTES
returns-then-h-eq-BYTES c = rw (unread-bytes _ _ _ _ (sym c.in_ok-h.ensures) c.if-h-eq-BYTES.true)

pub returns : goal.returns
returns c = rw (unread-nil _ _ _ _ (sym c.in_ok-h.ensures) c.if-h-eq-BYTES.false)
