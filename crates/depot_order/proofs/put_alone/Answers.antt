use Rattle.depot_order.specs.Order.{order_text}
use Rattle.depot_order.proofs.put_alone.Goals as goal

pub returns-then-not-common : goal.returns-then-not-common
unfolding order_text
returns-then-not-common c = rw c.if-not-common.true c.put.ensures

pub returns : goal.returns
unfolding order_text
returns c = rw c.if-not-common.false c.put_name.ensures.wrote
