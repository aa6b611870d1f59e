use Rattle.text_pieces.specs.Pieces.{between}
use Rattle.depot_identifiers.proofs.put_identifier_at.Goals as goal

pub returns : goal.returns
unfolding between
returns c =
    rw (← c.within-p.ensures.2) c.put_identifier.ensures
