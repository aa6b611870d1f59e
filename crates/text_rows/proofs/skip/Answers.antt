use mathlib.Core.Path.{◌≡◌, refl, ◌∙◌}
use borrow.Author.Rules.{rules}
use lib.ListN.{length}
use Rattle.text_rows.proofs.RowLaws.{after_bar, after_next, after_none, after-zero}
use Rattle.text_rows.proofs.skip.Goals as goal
use Rattle.text_rows.proofs.skip.Goals.{then-b-eq-BAR, else-b-eq-BAR}

pub loop-i-init : goal.loop-i-init
loop-i-init c = refl

pub returns-then-left-eq0 : goal.returns-then-left-eq0
returns-then-left-eq0 c =
    (search rules, after-zero _ _ c.loop-i.left c.if-left-eq0.true c.loop-i.invariant)

pub loop-i-preserved : goal.loop-i-preserved
loop-i-preserved c =
    elim c.if-b-eq-BAR.branch [
      | then-b-eq-BAR w ↦ rw w.left-is (after_bar c.args.s.now c.loop-i.i c.loop-i.left (search rules) c.if-left-eq0.false w.if-b-eq-BAR.true ∙ c.loop-i.invariant)
      | else-b-eq-BAR w ↦ rw w.left-is (after_next c.args.s.now c.loop-i.i c.loop-i.left (search rules) c.if-left-eq0.false w.if-b-eq-BAR.false ∙ c.loop-i.invariant)
    ]

pub returns : goal.returns
returns c =
    let e : c.loop-i.i ≡ length c.args.s.now = search rules in
    (search rules, after_none _ (length c.args.s.now) _ c.loop-i.left (search rules) (rw e at c.loop-i.invariant))
