use mathlib.Core.Path.{sym, ◌∙◌, ap}
use native.Mathlib.Omega.{arith}
use Rattle.depot_identifiers.proofs.IdentifierLaws.{strings-none, strings-next, strings-other}
use Rattle.depot_items.specs.declared.Item.{Item}
use Rattle.depot_identifiers.proofs.are_strings.Goals as goal

pub returns-then-i-ne-BYTES : goal.returns-then-i-ne-BYTES
returns-then-i-ne-BYTES c =
    sym (c.loop.invariant ∙ strings-other _ _ _ (omega arith) (λ q. c.if-i-ne-BYTES.true (ap (λ (i : Item). i.kind) c.want-i.ensures ∙ q)))

pub loop-preserved : goal.loop-preserved
loop-preserved c =
    rw c.want-i.ensures (c.loop.invariant ∙ strings-next _ _ _ _ (omega arith) (ap (λ (i : Item). i.kind) (sym c.want-i.ensures) ∙ c.if-i-ne-BYTES.false))

pub returns : goal.returns
returns c = sym (c.loop.invariant ∙ strings-none _ _ _ (omega arith))
