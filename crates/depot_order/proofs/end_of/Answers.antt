use Rattle.depot_order.proofs.OrderLaws.{low-number, high-number}
use Rattle.depot_order.specs.Order.{end_of}
use Rattle.depot_order.proofs.end_of.Goals as goal

pub returns-then-key-lt-PAYLOAD_FETCH : goal.returns-then-key-lt-PAYLOAD_FETCH
unfolding end_of
returns-then-key-lt-PAYLOAD_FETCH c = rw (low-number _ c.if-key-lt-PAYLOAD_FETCH.true)

pub returns : goal.returns
unfolding end_of
returns c = rw (high-number _ c.if-key-lt-PAYLOAD_FETCH.false)
