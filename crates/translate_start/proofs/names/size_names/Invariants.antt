use Prim.Native.Nat.{◌+◌, ◌*◌, ◌≤◌}
use mathlib.Core.Path.{◌≡◌}
use lib.ListN.{length}
use Rattle.rules.specs.Limits.{limits}
use Rattle.rules.specs.ProgramFormat.{name_size}
use Rattle.rules.specs.Bytes.{Bytes, InBytes}
use Rattle.translate_start.proofs.NameLaws.{named, names_left}
use Rattle.translate_start.proofs.names.size_names.Given as goal

abbrev pub invariant-loop-k : goal.invariant-loop-k
invariant-loop-k l =
    (l.sum ≤ (name_size + limits.envelope) * l.k) × ((s : Bytes) → InBytes l.ids l.n (length s) → l.sum + length (names_left s l.ids l.n l.k) ≡ length (named s l.ids l.n))
