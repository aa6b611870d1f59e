use mathlib.Core.Path.{◌≡◌}
use lib.ListN.{length}
use Rattle.rules.specs.Slots.{answer_bytes}
use Rattle.byte_buffer.proofs.ByteLoops.{copied}
use Rattle.run_slots.proofs.image.take.Given as goal

abbrev pub invariant-loop-k : goal.invariant-loop-k
invariant-loop-k l = (length l.initial.image ≡ answer_bytes) × (l.image ≡ copied l.b l.at l.initial.image l.k)
