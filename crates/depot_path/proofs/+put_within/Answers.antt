-- The path from a part on.
use mathlib.Core.Path.{sym, ◌∙◌}
use Rattle.text.proofs.TextLaws.{wrote_none, wrote_then}
use Rattle.depot_path.proofs.PathLaws.{within_none, within_stop, within-left, within-key, within_on}
use Rattle.depot_path.proofs.+put_within.Goals as goal

pub returns-then-depth-eq0 : goal.returns-then-depth-eq0
returns-then-depth-eq0 t c = rw (within_none _ _ _ _ _ _ c.if-depth-eq0.true) (wrote_none _ _)

pub returns-in_default : goal.returns-in_default
returns-in_default t c =
    rw (within_stop _ _ _ _ _ _ c.if-depth-eq0.false c.in_default.ensures) c.put_name.ensures

pub returns-then-x-eq0 : goal.returns-then-x-eq0
returns-then-x-eq0 t c =
    rw (within-left _ _ _ _ _ _ c.if-depth-eq0.false _ c.in-Some.ensures _ c.settle-x.ensures c.if-x-eq0.true) c.put_left_over.ensures

pub returns-then-at_head : goal.returns-then-at_head
returns-then-at_head t c =
    rw (within-key _ _ _ _ _ _ c.if-depth-eq0.false _ c.in-Some.ensures _ c.settle-x.ensures
    c.if-x-eq0.false _ c.shape_of-h.ensures _ c.key_at-k.ensures _ c.less-n.ensures
    (sym c.at_head.ensures ∙ c.if-at_head.true)) c.put_key.ensures

pub returns : goal.returns
returns t c =
    rw (within_on _ _ _ _ _ _ c.if-depth-eq0.false _ c.in-Some.ensures _ c.settle-x.ensures
    c.if-x-eq0.false _ c.shape_of-h.ensures _ c.key_at-k.ensures _ c.less-n.ensures
    (sym c.at_head.ensures ∙ c.if-at_head.false) _ c.child.ensures)
    (wrote_then c.put_entry-a.ensures c.put_within.ensures)
