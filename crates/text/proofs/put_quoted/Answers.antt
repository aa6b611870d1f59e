use Rattle.text.proofs.TextLaws.{wrote_then}
use Rattle.text.specs.Text.{quoted}
use Rattle.text.proofs.put_quoted.Goals as goal

pub returns : goal.returns
unfolding quoted
returns c =
    wrote_then (wrote_then c.put_byte-a.ensures c.put_printed-b.ensures) c.put_byte.ensures
