use Rattle.text.proofs.TextLaws.{wrote_none}
use Rattle.depot_order.proofs.put_rest.Goals as goal

pub returns-then-told : goal.returns-then-told
returns-then-told c = rw c.if-told.true (wrote_none _ _)

pub returns-else-told : goal.returns-else-told
returns-else-told c = rw c.if-told.false c.put_alone.ensures
