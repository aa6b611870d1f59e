use Prim.Native.Nat.{◌-◌}
use mathlib.Core.Path.{refl}
use native.Mathlib.Omega.{arith}
use lib.ListN.{get_or}
use Rattle.run_slots.specs.Slot.{Holds}
use borrow.Author.Tests.{le-leb, lt-leb}
use Rattle.rules.specs.Step.{unless}
use Rattle.run_actions.proofs.ActionLaws.{swap-unset, swap-set}
use Rattle.run_copies.proofs.swap.Goals as goal

pub returns-then-source-eq0 : goal.returns-then-source-eq0
returns-then-source-eq0 c = (refl, λ s env i st a h. rw (swap-unset s _ env i st _ _ a c.args.memory.now h c.if-source-eq0.true))

pub returns-then-not-present : goal.returns-then-not-present
unfolding unless
returns-then-not-present c = (
  refl,
  λ s env i st a h.
      rw (
        swap-set s _ env i st _ _ a c.args.memory.now h c.if-source-eq0.false,
        ← c.present.ensures,
        c.if-not-present.true,
      ),
)

pub present-requires-2 : goal.present-requires-2
present-requires-2 c =
    c.requires.1 _ (omega (arith, c.requires.2))

pub returns-then-not-present-2 : goal.returns-then-not-present-2
unfolding unless
returns-then-not-present-2 c = (
  refl,
  λ s env i st a h.
      rw (
        swap-set s _ env i st _ _ a c.args.memory.now h c.if-source-eq0.false,
        ← c.present.ensures,
        c.if-not-present.false,
        ← c.present-2.ensures,
        c.if-not-present-2.true,
      ),
)

pub size-requires : goal.size-requires
size-requires c =
    c.requires.1 _ (omega (arith, c.requires.2))

pub returns-then-capacity-size : goal.returns-then-capacity-size
unfolding unless
returns-then-capacity-size c = (
  refl,
  λ s env i st a h.
      rw (
        swap-set s _ env i st _ _ a c.args.memory.now h c.if-source-eq0.false,
        ← c.present.ensures,
        c.if-not-present.false,
        ← c.present-2.ensures,
        c.if-not-present-2.false,
        ← c.size.ensures,
        ← c.capacity.ensures,
        lt-leb _ _ c.if-capacity-size.true,
      ),
)

pub capacity-requires-2 : goal.capacity-requires-2
capacity-requires-2 c =
    c.requires.1 _ (omega (arith, c.requires.2))

pub returns-then-capacity-size-2 : goal.returns-then-capacity-size-2
unfolding unless
returns-then-capacity-size-2 c = (
  refl,
  λ s env i st a h.
      rw (
        swap-set s _ env i st _ _ a c.args.memory.now h c.if-source-eq0.false,
        ← c.present.ensures,
        c.if-not-present.false,
        ← c.present-2.ensures,
        c.if-not-present-2.false,
        ← c.size.ensures,
        ← c.capacity.ensures,
        le-leb _ _ c.if-capacity-size.false,
        ← c.size-2.ensures,
        ← c.capacity-2.ensures,
        lt-leb _ _ c.if-capacity-size-2.true,
      ),
)

pub image-requires : goal.image-requires
image-requires c =
    c.requires.1 _ (omega (arith, c.requires.2))

pub put_image-requires-2 : goal.put_image-requires-2
put_image-requires-2 c =
    let h : Holds c.args.slots.now (get_or c.args.memory.now (c.args.p.source - 1) 0) = c.requires.1 _ (omega (arith, c.requires.2)) in
    omega (arith, h, c.slots-1.given)

-- the steps are written out to where the images were taken: `rw` with a fact refuses a way point that passes it
pub returns : goal.returns
unfolding unless
returns c = (
  refl,
  λ s env i st a h.
      rw (
        swap-set s _ env i st _ _ a c.args.memory.now h c.if-source-eq0.false,
        ← c.present.ensures,
        c.if-not-present.false,
        ← c.present-2.ensures,
        c.if-not-present-2.false,
        ← c.size.ensures,
        ← c.capacity.ensures,
        le-leb _ _ c.if-capacity-size.false,
        ← c.size-2.ensures,
        ← c.capacity-2.ensures,
        le-leb _ _ c.if-capacity-size-2.false,
        c.put_image-2.ensures,
        c.put_image.ensures,
        c.image.ensures,
        c.image-own.ensures,
      ),
)
