use Rattle.text.proofs.TextLaws.{wrote_then}
use Rattle.text_escaped.proofs.put_escape.Goals as goal

pub returns : goal.returns
returns c =
    wrote_then c.put-to.ensures c.put_hex.ensures
