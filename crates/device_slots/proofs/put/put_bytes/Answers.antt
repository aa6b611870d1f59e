use Prim.Native.Nat.{◌/◌}
use mathlib.Core.Path.{◌≡◌}
use native.Mathlib.Omega.{arith}
use lib.ListN.{length}
use Rattle.text.proofs.TextLaws.{wrote_none, wrote_then, wrote-length}
use Rattle.device_text.specs.Words as Words
use Rattle.device_text.proofs.WordLaws.{unhex-next}
use Rattle.device_slots.proofs.put.put_bytes.Goals as goal

pub loop-i-init : goal.loop-i-init
unfolding Words.unhex
loop-i-init c = wrote_none _ _

pub loop-i-preserved : goal.loop-i-preserved
loop-i-preserved c =
    rw (← unhex-next c.loop-i.i c.args.w.now, ← c.pair.ensures) (wrote_then c.loop-i.invariant c.put_byte-to.ensures)

pub shape_of-room : goal.shape_of-room
shape_of-room c = wrote-length c.loop-i.invariant

pub returns : goal.returns
unfolding Words.bytes
returns c =
    let e : c.loop-i.i ≡ length c.args.w.now / 2 = omega arith in
    rw e at c.loop-i.invariant
