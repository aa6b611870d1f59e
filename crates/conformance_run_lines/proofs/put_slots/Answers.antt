use Prim.Native.Nat.{◌/◌}
use mathlib.Core.Path.{◌≡◌}
use native.Mathlib.Omega.{arith}
use lib.ListN.{length}
use Rattle.rules.specs.Slots.{slot_bytes}
use Rattle.text.proofs.TextLaws.{wrote-length}
use Rattle.conformance_run_lines.proofs.LineLaws.{slots-none, slots_next}
use borrow.Author.Rules.{rules}
use Rattle.conformance_run_lines.proofs.put_slots.Goals as goal

pub loop-k-init : goal.loop-k-init
loop-k-init c = slots-none _ _ _

pub loop-k-preserved : goal.loop-k-preserved
loop-k-preserved c =
    slots_next _ _ _ _ c.loop-k.invariant c.put_name-to.ensures c.put_image-to.ensures

pub shape_of-room : goal.shape_of-room
shape_of-room c =
    wrote-length c.loop-k.invariant

pub returns : goal.returns
returns c =
    let e : c.loop-k.k ≡ length c.args.slots.now / slot_bytes = omega arith in rw e at c.loop-k.invariant
