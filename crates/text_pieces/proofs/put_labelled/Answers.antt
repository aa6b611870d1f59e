use Rattle.text.proofs.TextLaws.{wrote_then}
use Rattle.text_pieces.specs.Pieces.{labelled}
use Rattle.text_pieces.proofs.put_labelled.Goals as goal

pub returns : goal.returns
unfolding labelled
returns c =
    wrote_then c.put-to.ensures c.put_decimal.ensures
