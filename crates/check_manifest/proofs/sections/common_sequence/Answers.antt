use Rattle.cbor_reading.proofs.ReadingLaws.{handed, place_of-stopped, place_of-went, above}
use Rattle.check_manifest.proofs.SectionLaws.{common-none, common_stop, common-more}
use Rattle.check_manifest.proofs.sections.common_sequence.Goals as goal

pub returns-then-k-eq0 : goal.returns-then-k-eq0
returns-then-k-eq0 c = common-none _ _ _ _ _ _ c.if-k-eq0.true _

pub returns-in_err-p : goal.returns-in_err-p
returns-in_err-p c =
    rw (handed _ _ c.from_residual.ensures.1)
    (common_stop _ _ _ _ _ _ _ (above _ c.if-k-eq0.false) _ (place_of-stopped _ _ c.in_err-p.ensures) _ _)

pub returns : goal.returns
returns c =
    common-more _ _ _ _ _ _ _ (above _ c.if-k-eq0.false) _ (place_of-went _ _ c.in_ok-p.ensures)
    _ _ _ c.section.ensures
