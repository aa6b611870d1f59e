use Rattle.text.proofs.TextLaws.{wrote_then}
use Rattle.text_pieces.specs.Pieces.{coded}
use Rattle.text_pieces.proofs.put_code.Goals as goal

pub returns : goal.returns
unfolding coded
returns c =
    wrote_then c.put_labelled-to.ensures c.put_byte.ensures
