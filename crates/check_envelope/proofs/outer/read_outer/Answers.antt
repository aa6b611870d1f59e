use Rattle.rules.specs.Check.{outer_at}
use Rattle.cbor_reading.proofs.ReadingLaws.{handed, item-stopped, item_went, place_of-stopped, place_of-went}
use Rattle.check_envelope.proofs.outer.read_outer.Goals as goal

pub returns-in_err-h : goal.returns-in_err-h
unfolding outer_at
returns-in_err-h c = rw (handed _ _ c.from_residual.ensures.1, item-stopped _ _ _ _ _ _ _ c.in_err-h.ensures)

pub returns-in_err-first : goal.returns-in_err-first
unfolding outer_at
returns-in_err-first c =
    rw (handed _ _ c.from_residual-in_err-first.ensures.1, item_went _ _ _ _ _ _ _ c.in_ok-h.ensures, place_of-stopped _ _ c.in_err-first.ensures)

pub returns-in_err-next : goal.returns-in_err-next
unfolding outer_at
returns-in_err-next c =
    rw (handed _ _ c.from_residual-in_err-next.ensures.1, item_went _ _ _ _ _ _ _ c.in_ok-h.ensures, place_of-went _ _ c.in_ok-first.ensures)
    (rw (place_of-stopped _ _ c.in_err-next.ensures))

pub returns-in_err-at : goal.returns-in_err-at
unfolding outer_at
returns-in_err-at c =
    rw (handed _ _ c.from_residual-in_err-at.ensures.1, item_went _ _ _ _ _ _ _ c.in_ok-h.ensures, place_of-went _ _ c.in_ok-first.ensures)
    (rw (place_of-went _ _ c.in_ok-next.ensures, place_of-stopped _ _ c.in_err-at.ensures))

pub returns : goal.returns
unfolding outer_at
returns c =
    rw (item_went _ _ _ _ _ _ _ c.in_ok-h.ensures, place_of-went _ _ c.in_ok-first.ensures, place_of-went _ _ c.in_ok-next.ensures)
    (rw (place_of-went _ _ c.in_ok-at.ensures) c.item-2.ensures)
