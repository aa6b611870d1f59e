use Rattle.rules.specs.Check.{numbered_at}
use Rattle.cbor_reading.proofs.ReadingLaws.{handed, place_of-stopped, place_of-went, number-stopped, number_went}
use Rattle.check_manifest.proofs.numbered.Goals as goal

pub returns-in_err-p : goal.returns-in_err-p
unfolding numbered_at
returns-in_err-p c = rw (handed _ _ c.from_residual.ensures.1, place_of-stopped _ _ c.in_err-p.ensures)

pub returns-in_err-n : goal.returns-in_err-n
unfolding numbered_at
returns-in_err-n c =
    rw (handed _ _ c.from_residual-in_err-n.ensures.1, place_of-went _ _ c.in_ok-p.ensures, number-stopped _ _ _ _ c.in_err-n.ensures)

pub returns-in_err-next : goal.returns-in_err-next
unfolding numbered_at
returns-in_err-next c =
    rw (handed _ _ c.from_residual-in_err-next.ensures.1, place_of-went _ _ c.in_ok-p.ensures, number_went _ _ _ _ c.in_ok-n.ensures)
    (rw (place_of-stopped _ _ c.in_err-next.ensures))

pub returns : goal.returns
unfolding numbered_at
returns c = rw (place_of-went _ _ c.in_ok-p.ensures, number_went _ _ _ _ c.in_ok-n.ensures, place_of-went _ _ c.in_ok-next.ensures)
