use Prim.Native.Nat.{◌+◌}
use mathlib.Core.Path.{◌≡◌}
use lib.ListN.{length}
use Rattle.rules.specs.Bytes.{put}
use Rattle.translate_start.proofs.NameLaws.{named, names_left}
use Rattle.translate_start.proofs.names.write_names.Given as goal

abbrev pub invariant-loop-k : goal.invariant-loop-k
invariant-loop-k l =
    (length l.room ≡ length l.initial.room) × (put l.initial.room l.at (named l.s l.ids l.n) ≡ put l.room l.to (names_left l.s l.ids l.n l.k)) × (l.to + length (names_left l.s l.ids l.n l.k) ≡ l.at + length (named l.s l.ids l.n))
