use native.Mathlib.Omega.{arith}
use Rattle.text.proofs.TextLaws.{wrote_none}
use Rattle.depot_reasons.specs.First.{first}
use Rattle.depot_reasons.specs.BadSlots.{among_text}
use Rattle.depot_reasons.proofs.ReasonLaws.{twice_some, twice_none}
use Rattle.depot_reasons.proofs.slots.put_among.Goals as goal

pub put_bad-requires : goal.put_bad-requires
put_bad-requires c =
    omega (arith, c.in-Some.ensures.below, c.requires)

pub returns-in-Some : goal.returns-in-Some
unfolding among_text first
returns-in-Some c =
    rw (← c.in-Some.ensures.which) c.put_bad.ensures

pub put_twice-requires : goal.put_twice-requires
put_twice-requires c =
    omega (arith, c.in-Some-first_twice.ensures.below, c.requires)

pub returns-in-Some-first_twice : goal.returns-in-Some-first_twice
unfolding among_text first
returns-in-Some-first_twice c =
    let (is, has) = twice_some c.args.slots.now _ _ _ c.in-Some-first_twice.ensures.which in
    rw (← c.in_default.ensures.which, ← is, ← has) c.put_twice.ensures

pub returns : goal.returns
unfolding among_text first
returns c =
    rw (← c.in_default.ensures.which, ← twice_none _ _ c.in_default-first_twice.ensures.which) (wrote_none _ _)
