use Rattle.text.proofs.TextLaws.{wrote_then}
use Rattle.depot_messages.specs.Messages.{count_text}
use Rattle.depot_messages.proofs.put_count.Goals as goal

pub returns : goal.returns
unfolding count_text
returns c =
    wrote_then (wrote_then c.put_around-a.ensures c.put_words-b.ensures) c.put.ensures
