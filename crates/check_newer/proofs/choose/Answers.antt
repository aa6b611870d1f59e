use borrow.Author.Tests.{lt-ltb, le-ltb}
use Rattle.rules.specs.Newer.{newer}
use Rattle.check_newer.proofs.NewerLaws.{chosen_law}
use Rattle.check_newer.proofs.choose.Goals as goal

pub returns-in-None-None : goal.returns-in-None-None
unfolding newer
returns-in-None-None c = rw (chosen_law, ← c.part_in.ensures, ← c.part_in-2.ensures, c.in-None-None.is-0, c.in-None-None.is-1)

pub returns-in-None-Some : goal.returns-in-None-Some
unfolding newer
returns-in-None-Some c = rw (chosen_law, ← c.part_in.ensures, ← c.part_in-2.ensures, c.in-None-Some.is-0, c.in-None-Some.is-1)

pub returns-in-Some-None : goal.returns-in-Some-None
unfolding newer
returns-in-Some-None c = rw (chosen_law, ← c.part_in.ensures, ← c.part_in-2.ensures, c.in-Some-None.is-0, c.in-Some-None.is-1)

pub returns-then-x-y : goal.returns-then-x-y
unfolding newer
returns-then-x-y c =
    rw (chosen_law, ← c.part_in.ensures, ← c.part_in-2.ensures, c.in-Some-Some.is-0, c.in-Some-Some.is-1)
    (rw (lt-ltb _ _ c.if-x-y.true))

pub returns-else-x-y : goal.returns-else-x-y
unfolding newer
returns-else-x-y c =
    rw (chosen_law, ← c.part_in.ensures, ← c.part_in-2.ensures, c.in-Some-Some.is-0, c.in-Some-Some.is-1)
    (rw (le-ltb _ _ c.if-x-y.false))
