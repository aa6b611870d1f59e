use Prim.Native.Nat.{◌-◌, ◌≤◌}
use mathlib.Core.Path.{◌≡◌}
use lib.ListN.{drop}
use Rattle.device_text.specs.Words as Words
use Rattle.device_text.proofs.line.line_start.Given as goal

abbrev pub invariant-loop : goal.invariant-loop
invariant-loop l = (l.counter - 1 ≤ l.n - 1) × (drop l.at l.text ≡ Words.behind_lines (l.counter - 1) l.text)
