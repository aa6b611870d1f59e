use Rattle.text.proofs.TextLaws.{wrote_then}
use Rattle.depot_messages.specs.Messages.{long_text}
use Rattle.depot_messages.proofs.put_long.Goals as goal

pub returns : goal.returns
unfolding long_text
returns c =
    wrote_then (wrote_then c.put_named-a.ensures c.put_labelled-b.ensures) c.put.ensures
