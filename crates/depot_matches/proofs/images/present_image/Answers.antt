use Prim.Native.Nat.{◌+◌, ◌-◌, ◌*◌, ◌/◌}
use mathlib.Core.Path.{◌≡◌, sym, ◌∙◌}
use lib.ListN.{length}
use native.Mathlib.Omega.{arith}
use borrow.Author.Tests.{le-leb, lt-leb}
use Rattle.rules.specs.Slots.{slot_bytes, image_from, answer_bytes, image_at}
use Rattle.depot_matches.specs.Images.{present_image}
use Rattle.depot_matches.proofs.images.present_image.Goals as goal
use Rattle.depot_matches.proofs.images.present_image.Goals.{then-slots-k-via-then-slots-k, then-slots-k-via-else-slots-k+then-not-present}

pub returns-then-slots-k : goal.returns-then-slots-k
unfolding present_image
returns-then-slots-k c =
    elim c.then-slots-k.branch [
      | then-slots-k-via-then-slots-k w ↦ rw (le-leb (length c.args.slots.now / slot_bytes) c.args.k w.if-slots-k.true)
      | then-slots-k-via-else-slots-k+then-not-present w ↦
          rw (lt-leb (length c.args.slots.now / slot_bytes) c.args.k w.if-slots-k.false, sym w.present.ensures ∙ w.if-not-present.true)
    ]

pub returns : goal.returns
unfolding present_image image_at
returns c =
    let at = slot_bytes * c.args.k + image_from in
    let e : at + answer_bytes - at ≡ answer_bytes = omega arith in
    rw (
      lt-leb (length c.args.slots.now / slot_bytes) c.args.k c.if-slots-k.false,
      sym c.present.ensures ∙ c.if-not-present.false,
      e,
    )
