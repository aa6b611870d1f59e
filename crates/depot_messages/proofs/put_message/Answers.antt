use Rattle.depot_messages.specs.Messages.{message_text}
use Rattle.depot_messages.proofs.put_message.Goals as goal

pub returns-in-Once : goal.returns-in-Once
unfolding message_text
returns-in-Once c =
    rw c.in-Once.is c.put.ensures

pub returns-in-Nested : goal.returns-in-Nested
unfolding message_text
returns-in-Nested c =
    rw c.in-Nested.is c.put-in-Nested.ensures
