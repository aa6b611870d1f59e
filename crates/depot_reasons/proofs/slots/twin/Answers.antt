use Rattle.depot_reasons.proofs.slots.twin.Goals as goal

pub returns : goal.returns
returns c = rw (← c.slot_name.ensures) c.slot_with.ensures
