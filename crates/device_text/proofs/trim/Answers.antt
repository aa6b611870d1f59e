use borrow.Author.Tests.{ltb-true}
use native.Mathlib.Omega.{arith}
use mathlib.Core.Path.{sym, ◌∙◌}
use Rattle.device_text.proofs.WordLaws.{trim-none, trim-turns}
use Rattle.device_text.proofs.trim.Goals as goal

pub loop-kept-preserved : goal.loop-kept-preserved
loop-kept-preserved c =
    c.loop-kept.invariant ∙ trim-turns c.loop-kept.kept.now c.in-len1-up.len_at_least ∙ rw (sym c.blank.ensures ∙ c.if-blank.true)

pub returns-then-kept-lt1 : goal.returns-then-kept-lt1
returns-then-kept-lt1 c = sym (c.loop-kept.invariant ∙ trim-none c.loop-kept.kept.now (omega (arith, ltb-true)))

pub returns-else-blank : goal.returns-else-blank
returns-else-blank c =
    sym (c.loop-kept.invariant ∙ trim-turns c.loop-kept.kept.now c.in-len1-up.len_at_least ∙ rw (sym c.blank.ensures ∙ c.if-blank.false))
