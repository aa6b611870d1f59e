use mathlib.Core.Path.{sym, ap}
use native.Mathlib.Omega.{arith}
use Rattle.cbor_reading.specs.Reading.{place_of}
use Rattle.cbor_reading.proofs.ReadingLaws.{handed}
use Rattle.component_ids.proofs.IdentifierLaws.{plain_stop, strings-stopped, forth, plain-long, plain-good}
use Rattle.component_ids.proofs.identifier.Goals as goal

pub returns-in_err-h : goal.returns-in_err-h
returns-in_err-h c = rw (handed _ _ c.from_residual.ensures.1) (ap place_of (sym (plain_stop _ _ _ c.in_err-h.ensures)))

pub returns-in_err-next : goal.returns-in_err-next
returns-in_err-next c =
    rw (handed _ _ c.from_residual-in_err-next.ensures.1) (ap place_of (sym (strings-stopped _ _ _ _ c.in_ok-h.ensures c.in_err-next.ensures)))

pub overflow_sub-next : goal.overflow_sub-next
overflow_sub-next c = omega (arith, (forth _ _ _ _ c.in_ok-h.ensures _ c.in_ok-next.ensures).0)

pub returns-then-next-at-gt-IDENTIFIER_BYTES : goal.returns-then-next-at-gt-IDENTIFIER_BYTES
returns-then-next-at-gt-IDENTIFIER_BYTES c =
    rw c.refuse.ensures (ap place_of (sym (plain-long _ _ _ _ c.in_ok-h.ensures _ c.in_ok-next.ensures (omega arith))))

pub returns : goal.returns
returns c = ap place_of (sym (plain-good _ _ _ _ c.in_ok-h.ensures _ c.in_ok-next.ensures (omega arith)))
