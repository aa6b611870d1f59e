use Rattle.text_pieces.specs.Pieces.{between}
use Rattle.text_pieces.proofs.put_part.Goals as goal

pub returns : goal.returns
unfolding between
returns c =
    rw (← c.within-p.ensures.2) c.put_hex.ensures
