use Prim.Native.Nat.{◌-◌, ◌≤◌}
use mathlib.Core.Path.{◌≡◌}
use lib.ListN.{length}
use Rattle.text.specs.Text.{Wrote}
use Rattle.conformance_format.specs.Format.{used, formatted}
use Rattle.conformance_format.proofs.put_format.Given as goal

abbrev pub invariant-loop-c : goal.invariant-loop-c
invariant-loop-c l = (l.k ≤ l.c-index) × (l.k ≡ used l.template l.c-index) × Wrote (formatted l.template l.numbers l.c-index) l.at l.initial.room l.to l.room
