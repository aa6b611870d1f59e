use mathlib.Core.Path.{sym, ◌∙◌}
use native.Mathlib.Omega.{arith}
use Rattle.program_parameters.proofs.EntryLaws.{next-end, next-other, next-some, formed-whole}
use Rattle.program_parameters.proofs.past.Goals as goal
use Rattle.program_parameters.proofs.past.Goals.{then-at-to-via-then-at-to, then-at-to-via-else-at-to+then-wide-key}

pub bounds-p-at-2 : goal.bounds-p-at-2
bounds-p-at-2 c =
    let (lo, hi, f) = c.requires.2 in
    let w = formed-whole c.args.p.now c.args.at c.args.to c.args.key lo hi (omega arith) (omega arith) f (omega arith) (sym c.wide.ensures.0 ∙ c.if-wide-key.false) in
    omega (arith, w.0)

pub returns-then-at-to : goal.returns-then-at-to
returns-then-at-to c lo hi f =
    elim c.then-at-to.branch [
      | then-at-to-via-then-at-to w ↦ next-end _ _ _ _ _ _ (omega arith) (omega arith) w.if-at-to.true
      | then-at-to-via-else-at-to+then-wide-key w ↦ next-other _ _ _ _ _ _ (omega arith) (omega arith) (omega arith) (λ e. w.if-wide-key.true (w.wide.ensures.0 ∙ e))
    ]

pub returns : goal.returns
returns c lo hi f =
    let k = sym c.wide.ensures.0 ∙ c.if-wide-key.false in
    let (h, t, u, s) = formed-whole c.args.p.now c.args.at c.args.to c.args.key lo hi (omega arith) (omega arith) f (omega arith) k in
    next-some _ _ _ _ _ _ (omega arith) (omega arith) _ c.wide-2.ensures.0 h k (omega arith) (omega arith) (omega arith)
