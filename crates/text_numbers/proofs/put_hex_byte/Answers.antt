use Rattle.text.specs.Text.{hex}
use Rattle.text.proofs.TextLaws.{wrote_then}
use Rattle.text_numbers.proofs.put_hex_byte.Goals as goal

pub returns : goal.returns
unfolding hex
returns c =
    rw (← c.digit.ensures, ← c.digit-2.ensures) (wrote_then c.put_byte-to.ensures c.put_byte.ensures)
