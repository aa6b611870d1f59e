use Prim.Native.Nat.{◌+◌, ◌-◌, ◌≤◌}
use mathlib.Core.Path.{◌≡◌}
use lib.ListN.{length, drop}
use Rattle.device_text.specs.Words as Words
use Rattle.device_description.specs.Scenario as Rule
use Rattle.device_description.proofs.ScenarioLaws.{Left}
use Rattle.device_description.proofs.describe.Given as goal

abbrev pub invariant-loop-at : goal.invariant-loop-at
invariant-loop-at l =
    (l.at ≤ length l.text) × (l.n ≤ l.at + 1) × (length l.slots ≡ length l.initial.slots) × (length l.answers ≡ length l.initial.answers)
    × Left (Rule.described (length l.initial.slots) (length l.initial.answers) l.text) l.initial.slots l.initial.answers (Rule.lines_from (length l.initial.slots) (length l.initial.answers) l.n l.d (Words.lines (drop l.at l.text))) l.d l.slots l.answers

abbrev pub decreases-loop-at : goal.decreases-loop-at
decreases-loop-at l = length l.text - l.at
