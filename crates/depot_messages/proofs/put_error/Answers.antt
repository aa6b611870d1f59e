use Rattle.text.proofs.TextLaws.{wrote_then}
use Rattle.depot_messages.specs.Messages.{error_text}
use Rattle.depot_messages.proofs.put_error.Goals as goal

pub returns : goal.returns
unfolding error_text
returns c =
    wrote_then (wrote_then c.put_named-a.ensures c.put_error_words-b.ensures) c.put_byte.ensures
