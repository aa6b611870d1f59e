use mathlib.Core.Path.{refl}
use native.Mathlib.Omega.{arith}
use borrow.Author.Tests.{le-leb, lt-leb}
use Rattle.rules.specs.Step.{unless}
use Rattle.run_actions.proofs.ActionLaws.{copy-unset, copy-set}
use Rattle.run_copies.proofs.copy.Goals as goal

pub returns-then-source-eq0 : goal.returns-then-source-eq0
returns-then-source-eq0 c = (refl, λ s env i st a h. rw (copy-unset s _ env i st _ _ a c.args.memory.now h c.if-source-eq0.true))

pub present-requires : goal.present-requires
present-requires c = c.requires.1 _ (omega (arith, c.requires.2))

pub returns-then-not-present : goal.returns-then-not-present
unfolding unless
returns-then-not-present c = (
  refl,
  λ s env i st a h.
      rw (
        copy-set s _ env i st _ _ a c.args.memory.now h c.if-source-eq0.false,
        ← c.present.ensures,
        c.if-not-present.true,
      ),
)

pub size-requires : goal.size-requires
size-requires c =
    c.requires.1 _ (omega (arith, c.requires.2))

pub returns-then-capacity-size : goal.returns-then-capacity-size
unfolding unless
returns-then-capacity-size c = (
  refl,
  λ s env i st a h.
      rw (
        copy-set s _ env i st _ _ a c.args.memory.now h c.if-source-eq0.false,
        ← c.present.ensures,
        c.if-not-present.false,
        ← c.size.ensures,
        ← c.capacity.ensures,
        lt-leb _ _ c.if-capacity-size.true,
      ),
)

pub image-requires : goal.image-requires
image-requires c =
    c.requires.1 _ (omega (arith, c.requires.2))

pub returns : goal.returns
unfolding unless
returns c = (
  refl,
  λ s env i st a h.
      rw (
        copy-set s _ env i st _ _ a c.args.memory.now h c.if-source-eq0.false,
        ← c.present.ensures,
        c.if-not-present.false,
        ← c.size.ensures,
        ← c.capacity.ensures,
        le-leb _ _ c.if-capacity-size.false,
        c.put_image.ensures,
        c.image.ensures,
      ),
)
