use mathlib.Core.Path.{◌≡◌}
use mathlib.Core.Bool.{◌&&◌}
use Rattle.rules.specs.Bytes as Bytes
use Rattle.rules.proofs.SameLaws.{same_from}
use Rattle.byte_buffer.proofs.equal.Given as goal

abbrev pub invariant-loop-k : goal.invariant-loop-k
invariant-loop-k l = Bytes.same (Bytes.part l.a l.i l.n) (Bytes.part l.b l.j l.n) ≡ (l.same && same_from l.a l.i l.b l.j l.n l.k)
