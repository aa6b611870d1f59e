use mathlib.Core.List.{[], ◌∷◌}
use Rattle.rules.specs.declared.answers.Group.TheVariants.{Boot}
use Rattle.rules.specs.Commands.{VALIDATE, LOAD, RUN}
use Rattle.depot_order.proofs.OrderLaws.{tells_none, turn-then, line_wrote}
use Rattle.depot_order.proofs.put_boot.Goals as goal

pub returns : goal.returns
returns c =
    line_wrote _ c.is_there-common.ensures Boot c.put-to.ensures
    (turn-then _ c.is_there-common.ensures VALIDATE (LOAD ∷ RUN ∷ []) c.is_there-validate.ensures c.put_turn-a.ensures
    (turn-then _ c.is_there-common.ensures LOAD (RUN ∷ []) c.is_there-load.ensures c.put_turn-b.ensures
    (turn-then _ c.is_there-common.ensures RUN [] c.is_there-run.ensures c.put_turn-c.ensures (tells_none _ _))))
    c.put_rest-d.ensures c.put.ensures
