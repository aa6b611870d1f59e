use mathlib.Core.Path.{sym, ◌∙◌}
use native.Mathlib.Omega.{arith}
use Rattle.depot_parts.proofs.SeekLaws.{short_none, short-leaf, short_stop, short_past, short-more, short-key, short_on}
use Rattle.depot_parts.proofs.seek.+short.Goals as goal

pub returns-then-depth-eq0 : goal.returns-then-depth-eq0
returns-then-depth-eq0 t c = short_none _ _ _ _ _ _ c.if-depth-eq0.true

pub returns-then-h-eq-LEAF : goal.returns-then-h-eq-LEAF
returns-then-h-eq-LEAF t c =
    c.missing.ensures ∙ short-leaf _ _ _ _ _ _ c.if-depth-eq0.false _ c.shape_of-h.ensures c.if-h-eq-LEAF.true

pub returns-in_default : goal.returns-in_default
returns-in_default t c =
    short_stop _ _ _ _ _ _ c.if-depth-eq0.false _ c.shape_of-h.ensures c.if-h-eq-LEAF.false c.in_default.ensures

pub returns-in-0 : goal.returns-in-0
returns-in-0 t c =
    short_past _ _ _ _ _ _ c.if-depth-eq0.false _ c.shape_of-h.ensures c.if-h-eq-LEAF.false _ c.in-Some.ensures c.in-0.is

pub returns-in_default-left : goal.returns-in_default-left
returns-in_default-left t c =
    short-more _ _ _ _ _ _ c.if-depth-eq0.false _ c.shape_of-h.ensures c.if-h-eq-LEAF.false _ c.in-Some.ensures (λ q. omega arith) (omega arith)

pub returns-then-at_head : goal.returns-then-at_head
returns-then-at_head t c =
    c.if-at_head.true ∙ short-key _ _ _ _ _ _ c.if-depth-eq0.false _ c.shape_of-h.ensures c.if-h-eq-LEAF.false _ c.in-Some.ensures
    (λ q. omega arith) (omega arith) _ c.key_at-k.ensures (sym c.at_head.ensures ∙ c.if-at_head.true)

pub returns-else-at_head : goal.returns-else-at_head
returns-else-at_head t c =
    rw c.short.ensures (short_on _ _ _ _ _ _ c.if-depth-eq0.false _ c.shape_of-h.ensures c.if-h-eq-LEAF.false _ c.in-Some.ensures
    (λ q. omega arith) (omega arith) _ c.key_at-k.ensures (sym c.at_head.ensures ∙ c.if-at_head.false) _ c.child.ensures)
