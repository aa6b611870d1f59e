use mathlib.Core.Path.{sym}
use native.Mathlib.Omega.{arith}
use Rattle.component_ids.proofs.IdentifierLaws.{same_unlike}
use Rattle.component_ids.proofs.same_bytes.Goals as goal

pub returns-then-size-width : goal.returns-then-size-width
returns-then-size-width c = sym (same_unlike _ _ _ _ _ c.requires c.if-size-width.true)

pub equal-requires : goal.equal-requires
equal-requires c = (omega arith, omega arith)

pub returns : goal.returns
returns c = rw (← c.if-size-width.false) c.equal.ensures
