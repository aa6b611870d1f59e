use borrow.Author.Rules.{rules}
use native.Mathlib.Omega.{arith}
use borrow.Author.Tests.{lt-ltb, le-ltb}
use Rattle.conformance_cases.specs.Fields.{string_end}
use Rattle.conformance_cases.proofs.fields.string_end.Goals as goal

pub returns-then-b-lt2 : goal.returns-then-b-lt2
unfolding string_end
returns-then-b-lt2 c = record { end = rw (lt-ltb _ _ c.if-b-lt2.true); within = search rules; whole = search rules; short = search rules }

pub returns-then-b-n : goal.returns-then-b-n
unfolding string_end
returns-then-b-n c =
    record { end = rw (le-ltb _ _ c.if-b-lt2.false, ← c.two-n.ensures.0, lt-ltb _ _ c.if-b-n.true); within = search rules; whole = search rules; short = search rules }

pub returns : goal.returns
unfolding string_end
returns c =
    record { end = rw (le-ltb _ _ c.if-b-lt2.false, ← c.two-n.ensures.0, le-ltb _ _ c.if-b-n.false); within = omega arith; whole = omega arith; short = omega arith }
