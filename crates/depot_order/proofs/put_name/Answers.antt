use Rattle.depot_order.proofs.OrderLaws.{name-tells}
use Rattle.depot_order.proofs.put_name.Goals as goal

pub returns : goal.returns
returns c =
    name-tells _ c.put_parting-a.ensures c.put_section-b.ensures
