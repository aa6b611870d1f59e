use mathlib.Core.List.{[], ◌∷◌, append-nil}
use Rattle.text.specs.Text.{hex}
use Rattle.text.proofs.TextLaws.{wrote_then}
use Rattle.text_pieces.specs.Pieces.{spaced}
use Rattle.text_pieces.proofs.put_one.Goals as goal

pub returns : goal.returns
unfolding spaced
returns c =
    rw (append-nil (32 ∷ hex (c.args.b ∷ []))) (wrote_then c.put_byte-to.ensures c.put_hex.ensures)
