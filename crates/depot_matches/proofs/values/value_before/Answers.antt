use mathlib.Core.Path.{◌≡◌}
use native.Mathlib.Omega.{arith}
use Rattle.depot_matches.proofs.TurnLaws.{value-start, value-next}
use Rattle.depot_matches.proofs.values.value_before.Goals as goal

pub loop-i-init : goal.loop-i-init
loop-i-init c = value-start _ _ _ _

pub loop-i-preserved : goal.loop-i-preserved
loop-i-preserved c =
    rw (value-next, ← c.event_at.ensures, ← c.loop-i.invariant) c.value_after-v.ensures

pub returns : goal.returns
returns c =
    let e : c.loop-i.i ≡ c.args.n = omega arith in
    rw (← e) c.loop-i.invariant
