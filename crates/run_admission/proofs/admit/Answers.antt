use mathlib.Core.Path.{sym, ◌∙◌}
use borrow.Author.Tests.{not-true, not-false}
use Rattle.run_slot_search.proofs.SearchLaws.{good-short}
use Rattle.run_admission.proofs.AdmitLaws.{no_verdict, no_start, wrong_number, bad-slots, no_slot, bad-answers, short-trace, admitted}
use Rattle.run_admission.proofs.admit.Goals as goal

pub returns-then-not-request : goal.returns-then-not-request
returns-then-not-request c = no_verdict _ _ _ _ _ _ (not-true _ c.if-not-request.true)

pub returns-then-not-may_start : goal.returns-then-not-may_start
returns-then-not-may_start c =
    no_start _ _ _ _ _ _ (not-false _ c.if-not-request.false) (sym c.may_start.ensures ∙ c.if-not-may_start.true)

pub returns-then-not-number_fits : goal.returns-then-not-number_fits
returns-then-not-number_fits c =
    wrong_number _ _ _ _ _ _ (not-false _ c.if-not-request.false) (sym c.may_start.ensures ∙ c.if-not-may_start.false)
    (sym c.number_fits.ensures ∙ c.if-not-number_fits.true)

pub returns-then-not-good_slots : goal.returns-then-not-good_slots
returns-then-not-good_slots c =
    bad-slots _ _ _ _ _ _ (not-false _ c.if-not-request.false) (sym c.may_start.ensures ∙ c.if-not-may_start.false)
    (sym c.number_fits.ensures ∙ c.if-not-number_fits.false) (sym c.good_slots.ensures ∙ c.if-not-good_slots.true)

pub find_slots-requires : goal.find_slots-requires
find_slots-requires c =
    (c.requires.0, c.requires.1, good-short _ (sym c.good_slots.ensures ∙ c.if-not-good_slots.false))

pub returns-then-not-find_slots : goal.returns-then-not-find_slots
returns-then-not-find_slots c =
    no_slot _ _ _ _ _ _ (not-false _ c.if-not-request.false) (sym c.may_start.ensures ∙ c.if-not-may_start.false)
    (sym c.number_fits.ensures ∙ c.if-not-number_fits.false) (sym c.good_slots.ensures ∙ c.if-not-good_slots.false)
    _ c.find_slots.ensures.2 (sym c.find_slots.ensures.0 ∙ c.if-not-find_slots.true)

pub returns-then-answers-ne0 : goal.returns-then-answers-ne0
returns-then-answers-ne0 c =
    bad-answers _ _ _ _ _ _ (not-false _ c.if-not-request.false) (sym c.may_start.ensures ∙ c.if-not-may_start.false)
    (sym c.number_fits.ensures ∙ c.if-not-number_fits.false) (sym c.good_slots.ensures ∙ c.if-not-good_slots.false)
    _ c.find_slots.ensures.2 (sym c.find_slots.ensures.0 ∙ c.if-not-find_slots.false) c.if-answers-ne0.true

pub returns-then-trace-lt-TRACE_BYTES : goal.returns-then-trace-lt-TRACE_BYTES
returns-then-trace-lt-TRACE_BYTES c =
    short-trace _ _ _ _ _ _ (not-false _ c.if-not-request.false) (sym c.may_start.ensures ∙ c.if-not-may_start.false)
    (sym c.number_fits.ensures ∙ c.if-not-number_fits.false) (sym c.good_slots.ensures ∙ c.if-not-good_slots.false)
    _ c.find_slots.ensures.2 (sym c.find_slots.ensures.0 ∙ c.if-not-find_slots.false) c.if-answers-ne0.false c.if-trace-lt-TRACE_BYTES.true

pub returns : goal.returns
returns c =
    admitted _ _ _ _ _ _ (not-false _ c.if-not-request.false) (sym c.may_start.ensures ∙ c.if-not-may_start.false)
    (sym c.number_fits.ensures ∙ c.if-not-number_fits.false) (sym c.good_slots.ensures ∙ c.if-not-good_slots.false)
    _ c.find_slots.ensures.2 (sym c.find_slots.ensures.0 ∙ c.if-not-find_slots.false) c.if-answers-ne0.false c.if-trace-lt-TRACE_BYTES.false
    (c.find_slots.ensures.1 c.if-not-find_slots.false)
