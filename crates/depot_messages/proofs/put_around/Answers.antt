use Rattle.text.proofs.TextLaws.{wrote_then}
use Rattle.depot_messages.specs.Messages.{around}
use Rattle.depot_messages.proofs.put_around.Goals as goal

pub returns : goal.returns
unfolding around
returns c =
    wrote_then (wrote_then c.put-a.ensures c.put_escaped-b.ensures) c.put.ensures
