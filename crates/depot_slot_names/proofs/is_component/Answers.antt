use Rattle.text_pieces.specs.Pieces.{between}
use Rattle.depot_slot_names.proofs.is_component.Goals as goal

pub returns : goal.returns
unfolding between
returns c = rw (← c.within-p.ensures.2) c.is.ensures
