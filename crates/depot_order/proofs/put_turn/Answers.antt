use Rattle.depot_order.proofs.OrderLaws.{tells_none, tells-then}
use Rattle.depot_order.proofs.put_turn.Goals as goal

pub returns-then-not-there : goal.returns-then-not-there
returns-then-not-there c = rw c.if-not-there.true (tells_none _ _)

pub returns : goal.returns
returns c = rw c.if-not-there.false (tells-then c.put_one-before.ensures c.put_name.ensures)
