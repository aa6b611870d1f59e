use borrow.Author.Tests.{eq-eqb, ne_eqb}
use Rattle.rules.specs.Check.{version_at}
use Rattle.cbor_reading.proofs.ReadingLaws.{handed, place_of-stopped, place_of-went, number-stopped, number_went}
use Rattle.check_manifest.proofs.version.Goals as goal

pub returns-in_err-p : goal.returns-in_err-p
unfolding version_at
returns-in_err-p c = rw (handed _ _ c.from_residual.ensures.1, place_of-stopped _ _ c.in_err-p.ensures)

pub returns-in_err-v : goal.returns-in_err-v
unfolding version_at
returns-in_err-v c =
    rw (handed _ _ c.from_residual-in_err-v.ensures.1, place_of-went _ _ c.in_ok-p.ensures, number-stopped _ _ _ _ c.in_err-v.ensures)

pub returns-then-v-ne-VERSION : goal.returns-then-v-ne-VERSION
unfolding version_at
returns-then-v-ne-VERSION c =
    rw (c.refuse.ensures, place_of-went _ _ c.in_ok-p.ensures, number_went _ _ _ _ c.in_ok-v.ensures, ne_eqb _ 1 c.if-v-ne-VERSION.true)

pub returns : goal.returns
unfolding version_at
returns c = rw (place_of-went _ _ c.in_ok-p.ensures, number_went _ _ _ _ c.in_ok-v.ensures, eq-eqb _ 1 c.if-v-ne-VERSION.false)
