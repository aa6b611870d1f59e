use native.Mathlib.Omega.{arith}
use Rattle.cbor_reading.proofs.ReadingLaws.{handed}
use Rattle.check_envelope.proofs.EnvelopeLaws.{promised, refusal-promised, check-long, check_no_outer, outer_fits, check-bad, check-left_over, check-good}
use Rattle.check_envelope.proofs.check.Goals as goal

pub returns-then-end-gt-ENVELOPE_BYTES : goal.returns-then-end-gt-ENVELOPE_BYTES
returns-then-end-gt-ENVELOPE_BYTES c = rw c.refuse.ensures (refusal-promised _ _ (check-long _ c.if-end-gt-ENVELOPE_BYTES.true))

pub returns-in_err-m : goal.returns-in_err-m
returns-in_err-m c =
    rw (handed _ _ c.from_residual.ensures.1) (refusal-promised _ _ (check_no_outer _ c.if-end-gt-ENVELOPE_BYTES.false _ c.in_err-m.ensures))

pub overflow_add-to : goal.overflow_add-to
overflow_add-to c = omega (arith, outer_fits _ c.if-end-gt-ENVELOPE_BYTES.false _ c.in_ok-m.ensures)

pub read_body-requires : goal.read_body-requires
read_body-requires c = (omega (arith, outer_fits _ c.if-end-gt-ENVELOPE_BYTES.false _ c.in_ok-m.ensures), c.tables-table.ensures)

pub returns-in_err-b : goal.returns-in_err-b
returns-in_err-b c =
    rw (handed _ _ c.from_residual-in_err-b.ensures.1)
    (refusal-promised _ _ (check-bad _ c.if-end-gt-ENVELOPE_BYTES.false _ c.in_ok-m.ensures _ c.in_err-b.ensures))

pub returns : goal.returns
returns c = promised _ _ (check-good _ c.if-end-gt-ENVELOPE_BYTES.false _ c.in_ok-m.ensures _ c.in_ok-b.ensures c.if-b-to.false c.if-b-end.false)

pub returns-then-b-to : goal.returns-then-b-to
returns-then-b-to c =
    rw c.refuse-then-b-to.ensures (refusal-promised _ _ (check-left_over _ c.if-end-gt-ENVELOPE_BYTES.false _ c.in_ok-m.ensures _ c.in_ok-b.ensures c.then-b-to.either))
