use mathlib.Core.Path.{sym, ◌∙◌}
use native.Mathlib.Omega.{arith}
use Rattle.component_ids.proofs.IdentifierLaws.{among-start, among-found, among_next, among-end, search_start, search_found, search_next, search_end}
use Rattle.component_ids.proofs.repeated_one.Goals as goal

pub loop-j-init : goal.loop-j-init
loop-j-init c = search_start _ _ _

pub overflow_sub-size : goal.overflow_sub-size
overflow_sub-size c = (c.requires.1 c.loop-j.j (omega arith)).0

pub loop-i-init : goal.loop-i-init
loop-i-init c = among-start _ _ _

pub overflow_sub-width : goal.overflow_sub-width
overflow_sub-width c =
    (c.requires.1 c.loop-i.i (omega arith)).0

pub same_bytes-requires : goal.same_bytes-requires
same_bytes-requires c =
    let (f, g) = c.requires.1 c.loop-j.j (omega arith) in
    let (u, v) = c.requires.1 c.loop-i.i (omega arith) in
    (omega arith, omega arith)

pub loop-i-preserved : goal.loop-i-preserved
loop-i-preserved c = c.loop-i.invariant ∙ among_next _ _ _ _ (omega arith) (sym c.same_bytes.ensures ∙ c.if-same_bytes.false)

pub loop-j-preserved : goal.loop-j-preserved
loop-j-preserved c = c.loop-j.invariant ∙ search_next _ _ _ _ (omega arith) (c.loop-i.invariant ∙ among-end _ _ _ _ (omega arith))

pub returns-after-loop-j : goal.returns-after-loop-j
returns-after-loop-j c = sym (c.loop-j.invariant ∙ search_end _ _ _ _ (omega arith))

pub returns-then-same_bytes : goal.returns-then-same_bytes
returns-then-same_bytes c =
    sym
    (c.loop-j.invariant
    ∙ search_found _ _ _ _ (omega arith) (c.loop-i.invariant ∙ among-found _ _ _ _ (omega arith) (sym c.same_bytes.ensures ∙ c.if-same_bytes.true)))
