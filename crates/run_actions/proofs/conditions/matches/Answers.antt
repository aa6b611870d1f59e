use mathlib.Core.Path.{refl}
use borrow.Author.Rules.{rules}
use borrow.Author.Tests.{eq-eqb, ne_eqb}
use Rattle.rules.specs.Step.{passes}
use Rattle.run_actions.proofs.ActionLaws.{match_unset, match_set}
use Rattle.run_actions.proofs.conditions.matches.Goals as goal

pub returns-then-digest-eq0 : goal.returns-then-digest-eq0
returns-then-digest-eq0 c = (refl, λ env i st a. rw (match_unset _ _ env i st _ _ a c.if-digest-eq0.true))

pub returns-then-not-present : goal.returns-then-not-present
unfolding passes
returns-then-not-present c = (
  refl,
  λ env i st a. rw (match_set _ _ env i st _ _ a c.if-digest-eq0.false, ← c.present.ensures, c.if-not-present.true),
)

pub equal-requires : goal.equal-requires
equal-requires c = (search rules, c.requires.1 (search rules))

pub returns-then-not-equal : goal.returns-then-not-equal
unfolding passes
returns-then-not-equal c = (
  refl,
  λ env i st a.
      rw (
        match_set _ _ env i st _ _ a c.if-digest-eq0.false,
        ← c.present.ensures,
        c.if-not-present.false,
        ← c.equal.ensures,
        c.if-not-equal.true,
      ),
)

pub returns-then-wanted-eq0 : goal.returns-then-wanted-eq0
unfolding passes
returns-then-wanted-eq0 c = (
  refl,
  λ env i st a.
      rw (
        match_set _ _ env i st _ _ a c.if-digest-eq0.false,
        ← c.present.ensures,
        c.if-not-present.false,
        ← c.equal.ensures,
        c.if-not-equal.false,
        eq-eqb _ _ c.if-wanted-eq0.true,
      ),
)

pub returns-then-wanted-size : goal.returns-then-wanted-size
unfolding passes
returns-then-wanted-size c = (
  refl,
  λ env i st a.
      rw (
        match_set _ _ env i st _ _ a c.if-digest-eq0.false,
        ← c.present.ensures,
        c.if-not-present.false,
        ← c.equal.ensures,
        c.if-not-equal.false,
        ne_eqb _ _ c.if-wanted-eq0.false,
        ← c.size.ensures,
        eq-eqb _ _ c.if-wanted-size.true,
      ),
)

pub returns : goal.returns
unfolding passes
returns c = (
  refl,
  λ env i st a.
      rw (
        match_set _ _ env i st _ _ a c.if-digest-eq0.false,
        ← c.present.ensures,
        c.if-not-present.false,
        ← c.equal.ensures,
        c.if-not-equal.false,
        ne_eqb _ _ c.if-wanted-eq0.false,
        ← c.size.ensures,
        ne_eqb _ _ c.if-wanted-size.false,
      ),
)
