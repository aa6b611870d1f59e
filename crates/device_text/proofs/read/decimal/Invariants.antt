use Prim.Native.Nat.{◌<◌}
use mathlib.Core.Path.{◌≡◌}
use lib.ListN.{drop}
use Rattle.device_text.specs.Words as Words
use Rattle.device_text.proofs.read.decimal.Given as goal

abbrev pub invariant-loop-b : goal.invariant-loop-b
invariant-loop-b l = (l.n < Words.no_number) × (Words.number l.w ≡ Words.number_from l.n (drop l.b-index l.w))
