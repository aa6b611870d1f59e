use mathlib.Core.Path.{◌≡◌, refl, sym, ◌∙◌}
use native.Mathlib.Omega.{arith}
use Rattle.depot_matches.proofs.TurnLaws.{origin_fetched, origin-moved, origin-start}
use Rattle.depot_matches.proofs.images.origin.Goals as goal

pub loop-i-init : goal.loop-i-init
loop-i-init c = refl

pub returns-then-fetched_by : goal.returns-then-fetched_by
returns-then-fetched_by c =
    let test = rw c.event_at.ensures at (sym c.fetched_by.ensures ∙ c.if-fetched_by.true) in
    rw c.fetches_before.ensures.0 (origin_fetched _ _ _ _ c.loop-i-test.true test ∙ c.loop-i.invariant)

pub loop-i-preserved : goal.loop-i-preserved
loop-i-preserved c =
    let test = rw c.event_at.ensures at (sym c.fetched_by.ensures ∙ c.if-fetched_by.false) in
    rw c.came_from-from.ensures (origin-moved _ _ _ _ c.loop-i-test.true test ∙ c.loop-i.invariant)

pub returns : goal.returns
returns c =
    let e : c.loop-i.i ≡ 0 = omega arith in
    c.origin_of.ensures ∙ origin-start _ _ _ _ e ∙ c.loop-i.invariant
