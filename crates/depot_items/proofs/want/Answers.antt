use mathlib.Core.Path.{sym, ◌∙◌, ap}
use Rattle.depot_items.specs.declared.Item.{Item}
use Rattle.depot_items.proofs.ItemLaws.{item-wanted, item_unwanted}
use Rattle.depot_items.proofs.want.Goals as goal

pub returns-then-i-kind : goal.returns-then-i-kind
returns-then-i-kind c =
    c.look-i.ensures ∙ sym (item-wanted _ _ _ _ (ap (λ (i : Item). i.kind) (sym c.look-i.ensures) ∙ c.if-i-kind.true))

pub returns-else-i-kind : goal.returns-else-i-kind
returns-else-i-kind c =
    c.nothing.ensures ∙ sym (item_unwanted _ _ _ _ (λ q. c.if-i-kind.false (ap (λ (i : Item). i.kind) c.look-i.ensures ∙ q)))
