use Prim.Native.Nat.{◌+◌, ◌-◌, ◌*◌}
use mathlib.Core.Path.{◌≡◌}
use native.Mathlib.Omega.{arith}
use Rattle.rules.specs.Slots.{slot_bytes}
use Rattle.device_writing.specs.Device.{slot_of}
use Rattle.device_writing.proofs.slots.put_slot_of.Goals as goal

pub returns : goal.returns
unfolding slot_of
returns c =
    let from = slot_bytes * c.args.k in
    let e : from + slot_bytes - from ≡ slot_bytes = omega arith in
    rw e at c.put_slot.ensures
