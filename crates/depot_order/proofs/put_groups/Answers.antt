use Rattle.text.proofs.TextLaws.{wrote_then}
use Rattle.depot_order.specs.Order.{groups_text}
use Rattle.depot_order.proofs.put_groups.Goals as goal

pub returns : goal.returns
unfolding groups_text
returns c =
    wrote_then c.put_install-a.ensures c.put_boot.ensures
