use Prim.Native.Nat.{◌≤◌}
use mathlib.Core.Path.{refl}
use native.Mathlib.Omega.{arith}
use lib.ListN.{length}
use lib.Seq.{take_all}
use Rattle.rules.specs.Limits.{limits}
use Rattle.rules.specs.Step.{passes}
use Rattle.run_actions.proofs.conditions.equal_sixteen.Goals as goal

pub returns-then-not-equal : goal.returns-then-not-equal
unfolding passes
returns-then-not-equal c =
    let l : length c.args.own.now ≤ limits.class = omega arith in
    (refl, λ st. rw (← rw (take_all limits.class c.args.own.now l) at c.equal.ensures, c.if-not-equal.true))

pub returns : goal.returns
unfolding passes
returns c =
    let l : length c.args.own.now ≤ limits.class = omega arith in
    (refl, λ st. rw (← rw (take_all limits.class c.args.own.now l) at c.equal.ensures, c.if-not-equal.false))
