use Rattle.depot_order.proofs.OrderLaws.{tells_none}
use Rattle.depot_order.proofs.put_one.Goals as goal

pub returns-then-there : goal.returns-then-there
returns-then-there c = rw c.if-there.true c.put_name.ensures

pub returns-else-there : goal.returns-else-there
returns-else-there c = rw c.if-there.false (tells_none _ _)
