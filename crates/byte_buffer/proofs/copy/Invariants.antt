use mathlib.Core.Path.{◌≡◌}
use lib.ListN.{length}
use lib.Seq.{sets}
use Rattle.rules.specs.Bytes.{part}
use Rattle.byte_buffer.proofs.ByteLoops.{put_from}
use Rattle.byte_buffer.proofs.copy.Given as goal

abbrev pub invariant-loop-i : goal.invariant-loop-i
invariant-loop-i l =
    (length l.room ≡ length l.initial.room) × (sets l.initial.room l.to (part l.s l.from l.n) ≡ put_from l.to (part l.s l.from l.n) l.i l.room)
