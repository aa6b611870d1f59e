use mathlib.Core.Path.{◌≡◌}
use lib.ListN.{length}
use lib.Seq.{sets}
use Rattle.byte_buffer.proofs.ByteLoops.{put_from}
use Rattle.run_slots.proofs.image.put_image.Given as goal

abbrev pub invariant-loop-i : goal.invariant-loop-i
invariant-loop-i l = (length l.slots ≡ length l.initial.slots) × (sets l.initial.slots l.at l.image ≡ put_from l.at l.image l.i l.slots)
