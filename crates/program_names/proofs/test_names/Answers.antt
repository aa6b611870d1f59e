use borrow.Author.Rules.{rules}
use mathlib.Core.Path.{◌∙◌}
use native.Mathlib.Omega.{arith}
use Rattle.program_names.proofs.NameLaws.{sofar_start, sofar_stop, sofar_next, sofar_end}
use Rattle.program_names.proofs.test_names.Goals as goal

pub loop-k-init : goal.loop-k-init
loop-k-init c = (search rules, sofar_start _ _ _ _ c.requires.2 (omega arith))

pub returns-in_err-next : goal.returns-in_err-next
returns-in_err-next c =
    let (e, f) = sofar_stop _ _ _ _ _ _ c.loop-k.invariant.1 (omega arith) c.in_err-next.ensures in
    (c.from_residual.ensures ∙ e, f)

pub loop-k-preserved : goal.loop-k-preserved
loop-k-preserved c = (
  search rules,
  sofar_next _ _ _ _ _ _ c.loop-k.invariant.1 (omega arith) _ c.in_ok-next.ensures (omega arith),
)

pub returns : goal.returns
returns c = sofar_end _ _ _ _ _ _ c.loop-k.invariant.1 (omega arith)
