use Rattle.text.proofs.TextLaws.{wrote_then}
use Rattle.depot_messages.specs.Messages.{status_text}
use Rattle.depot_messages.proofs.put_status.Goals as goal

pub returns : goal.returns
unfolding status_text
returns c =
    wrote_then c.put_labelled-to.ensures c.put_byte.ensures
