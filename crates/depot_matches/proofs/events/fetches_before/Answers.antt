use mathlib.Core.Path.{◌≡◌}
use native.Mathlib.Omega.{arith}
use Rattle.depot_matches.proofs.TurnLaws.{fetches-start, fetches-next}
use borrow.Author.Rules.{rules}
use Rattle.depot_matches.proofs.events.fetches_before.Goals as goal

pub loop-i-init : goal.loop-i-init
loop-i-init c = (fetches-start _, search rules)

pub loop-i-preserved : goal.loop-i-preserved
loop-i-preserved c =
    (rw (fetches-next, ← c.event_at.ensures, ← c.fetches_in-count.ensures.0, ← c.loop-i.invariant.0), search rules)

pub returns : goal.returns
returns c =
    let e : c.loop-i.i ≡ c.args.n = omega arith in
    (rw (← e) c.loop-i.invariant.0, search rules)
