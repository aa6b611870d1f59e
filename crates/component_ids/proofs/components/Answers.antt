use Prim.Native.Nat.{ℕ, ◌<◌}
use mathlib.Core.Path.{◌≡◌}
use native.Mathlib.Omega.{arith}
use Rattle.std.specs.Prelude.{Some}
use Rattle.rules.specs.Limits.{limits}
use Rattle.cbor_reading.proofs.ReadingLaws.{handed}
use Rattle.component_ids.proofs.IdentifierLaws.{components_stop, components-head, components-places, repeated-below, components-repeated, components-refused, components-good}
use Rattle.component_ids.proofs.components.Goals as goal
use Rattle.component_ids.proofs.components.Goals.{After-repeated_one}

below : (c : After-repeated_one) (j : ℕ) → c.repeated_one.result ≡ Some j → j < limits.components
below c j g =
    let (f, _) = components-places _ _ _ _ c.in_ok-h.ensures _ _ _ c.identifiers-read.ensures c.requires in
    let l = repeated-below _ _ _ _ c.in_ok-h.ensures _ _ _ c.identifiers-read.ensures _ c.repeated_one.ensures j g in
    omega arith

pub returns-in_err-h : goal.returns-in_err-h
returns-in_err-h c = rw (handed _ _ c.from_residual.ensures.1) (components_stop _ _ _ c.in_err-h.ensures _)

pub identifiers-read-requires : goal.identifiers-read-requires
identifiers-read-requires c = (c.requires, (components-head _ _ _ _ c.in_ok-h.ensures).0)

pub repeated_one-requires : goal.repeated_one-requires
repeated_one-requires c = components-places _ _ _ _ c.in_ok-h.ensures _ _ _ c.identifiers-read.ensures c.requires

pub overflow_mul-j : goal.overflow_mul-j
overflow_mul-j c = omega (arith, below (goal.at.overflow_mul-j c).After-repeated_one _ c.in-Some.is)

pub offset_bounds-ids-j : goal.offset_bounds-ids-j
offset_bounds-ids-j c = omega (arith, below (goal.at.offset_bounds-ids-j c).After-repeated_one _ c.in-Some.is)

pub bounds-ids-j : goal.bounds-ids-j
bounds-ids-j c = omega (arith, below (goal.at.bounds-ids-j c).After-repeated_one _ c.in-Some.is)

pub returns-in-Some : goal.returns-in-Some
returns-in-Some c =
    rw c.refuse.ensures (components-repeated _ _ _ _ c.in_ok-h.ensures _ _ _ c.identifiers-read.ensures _ c.repeated_one.ensures _ c.in-Some.is)

pub returns-in_err-next : goal.returns-in_err-next
returns-in_err-next c =
    rw (handed _ _ c.from_residual-in_err-next.ensures.1)
    (components-refused _ _ _ _ c.in_ok-h.ensures _ _ _ c.identifiers-read.ensures _
    c.repeated_one.ensures c.in_default.is c.in_err-next.was)

pub returns : goal.returns
returns c =
    components-good _ _ _ _ c.in_ok-h.ensures _ _ _ c.identifiers-read.ensures _
    c.repeated_one.ensures c.in_default.is c.in_ok-next.was
