use mathlib.Core.Path.{sym, ◌∙◌}
use native.Mathlib.Omega.{arith}
use Rattle.manifest_plan.proofs.StartLaws.{turn-none, turn-fits, turn-some}
use Rattle.manifest_plan.proofs.put_section.Goals as goal

pub returns-then-not-wanted : goal.returns-then-not-wanted
returns-then-not-wanted c =
    turn-none c.args.group c.args.sections.now c.args.starts.now c.args.k c.args.n (sym c.wanted.ensures ∙ c.if-not-wanted.true)

pub put_start-common-requires : goal.put_start-common-requires
put_start-common-requires c = (
  omega arith,
  (turn-fits c.args.group c.args.sections.now c.args.starts.now c.args.k c.args.n (sym c.wanted.ensures ∙ c.if-not-wanted.false) c.requires.2).0,
)

pub put_start-requires : goal.put_start-requires
put_start-requires c =
    let does = sym c.wanted.ensures ∙ c.if-not-wanted.false in (
      c.requires.1,
      omega (arith, c.put_start-common.ensures.1, (turn-fits c.args.group c.args.sections.now c.args.starts.now c.args.k c.args.n does c.requires.2).1),
    )

pub returns : goal.returns
returns c =
    turn-some c.args.group c.args.sections.now c.args.starts.now c.args.k c.args.n
    (sym c.wanted.ensures ∙ c.if-not-wanted.false)
    _ _ _ _ c.put_start-common.ensures c.put_start.ensures
