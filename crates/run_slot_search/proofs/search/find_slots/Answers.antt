use mathlib.Core.Path.{sym, ◌∙◌}
use native.Mathlib.Omega.{arith}
use Rattle.run_slot_search.proofs.SearchLaws.{sofar_start, sofar_stop, sofar_kept, sofar_next, sofar_all, sofar_found, sofar_done}
use Rattle.run_slot_search.proofs.search.find_slots.Goals as goal

pub loop-i-init : goal.loop-i-init
loop-i-init c = sofar_start _ _ _ _ _

pub returns-in_default : goal.returns-in_default
returns-in_default c =
    (sym (sofar_stop _ _ _ _ _ _ _ c.loop-i.invariant (omega arith) (sym c.in_default.is ∙ c.slot_of.ensures)), λ q. cc, sofar_kept _ _ _ _ _ _ _ c.loop-i.invariant (omega arith) (sym c.in_default.is ∙ c.slot_of.ensures))

pub loop-i-preserved : goal.loop-i-preserved
loop-i-preserved c = sofar_next _ _ _ _ _ _ _ c.loop-i.invariant (omega arith) _ (sym c.in-Some.is ∙ c.slot_of.ensures) (omega arith)

pub returns : goal.returns
returns c = (
  sym (sofar_all _ _ _ _ _ _ _ c.loop-i.invariant (omega arith)),
  λ q. sofar_found _ _ _ _ _ _ _ c.loop-i.invariant (omega arith),
  sofar_done _ _ _ _ _ _ _ c.loop-i.invariant (omega arith),
)
