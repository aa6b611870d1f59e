use Prim.Native.Nat.{◌-◌, ◌/◌}
use mathlib.Core.Path.{◌≡◌}
use native.Mathlib.Omega.{arith}
use lib.ListN.{length}
use Rattle.rules.specs.Limits.{limits}
use Rattle.text.proofs.TextLaws.{wrote_none, wrote_then}
use Rattle.device_slots.specs.SlotText as Rule
use Rattle.device_slots.proofs.put.put_identifier.Goals as goal

pub returns-then-n-gt-IDENTIFIER_BYTES : goal.returns-then-n-gt-IDENTIFIER_BYTES
unfolding Rule.identifier
returns-then-n-gt-IDENTIFIER_BYTES c =
    let none : limits.identifier - length c.args.w.now / 2 ≡ 0 = omega arith in
    rw (none, ← c.low.ensures) (wrote_then (wrote_then c.put_byte-a.ensures c.put_bytes-b.ensures) (wrote_none _ _))

pub returns : goal.returns
unfolding Rule.identifier
returns c =
    rw (← c.low.ensures) (wrote_then (wrote_then c.put_byte-a.ensures c.put_bytes-b.ensures) c.put_times.ensures)
