use mathlib.Core.List.{[], ◌∷◌}
use Rattle.rules.specs.declared.answers.Group.TheVariants.{Install}
use Rattle.rules.specs.Commands.{PAYLOAD_FETCH, INSTALL}
use Rattle.depot_order.proofs.OrderLaws.{tells_none, turn-then, line_wrote}
use Rattle.depot_order.proofs.put_install.Goals as goal

pub returns : goal.returns
returns c =
    line_wrote _ c.is_there-common.ensures Install c.put-to.ensures
    (turn-then _ c.is_there-common.ensures PAYLOAD_FETCH (INSTALL ∷ []) c.is_there-fetch.ensures c.put_turn-a.ensures
    (turn-then _ c.is_there-common.ensures INSTALL [] c.is_there-install.ensures c.put_turn-b.ensures (tells_none _ _)))
    c.put_rest-c.ensures c.put.ensures
