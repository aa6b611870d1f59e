use mathlib.Core.Path.{sym, ap, ◌∙◌}
use Prim.Native.Nat.{ℕ}
use native.Mathlib.Omega.{arith}
use Rattle.depot_reasons.proofs.ReasonLaws.{first-start, first_hit, first_next, first-end, twin_hit, twin_none}
use Rattle.std.specs.Prelude.{Some, option_map}
use Rattle.depot_reasons.specs.BadSlots.{with_twin}
use Rattle.depot_reasons.proofs.slots.first_twice.Goals as goal

pub loop-i-init : goal.loop-i-init
loop-i-init c = first-start _ _

pub twin-requires : goal.twin-requires
twin-requires c = omega (arith, c.loop-i-test.true, c.requires)

pub returns-in-Some-clause-which : goal.returns-in-Some-clause-which
returns-in-Some-clause-which c =
    let slots = c.args.slots.now in
    let (is, twice) = twin_hit slots c.loop-i.i c.args.n c.requires c.in-Some.k (sym c.in-Some.is ∙ c.twin.ensures) in
    ap (λ (t : ℕ). Some (c.loop-i.i, t)) is ∙ ap (option_map (with_twin slots)) (first_hit _ _ _ c.loop-i.invariant c.loop-i-test.true twice)

pub loop-i-preserved : goal.loop-i-preserved
loop-i-preserved c =
    first_next _ _ _ c.loop-i.invariant c.loop-i-test.true (twin_none c.args.slots.now _ _ c.requires (sym c.in_default.is ∙ c.twin.ensures))

pub returns-clause-which : goal.returns-clause-which
returns-clause-which c = ap (option_map (with_twin c.args.slots.now)) (first-end _ _ _ c.loop-i.invariant c.loop-i-test.false)
