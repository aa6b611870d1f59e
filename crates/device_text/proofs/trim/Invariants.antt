use mathlib.Core.Path.{◌≡◌}
use lib.ListN.{length}
use Rattle.device_text.specs.Words as Words
use Rattle.device_text.proofs.trim.Given as goal

abbrev pub invariant-loop-kept : goal.invariant-loop-kept
invariant-loop-kept l = Words.trim l.s ≡ Words.trim l.kept

abbrev pub decreases-loop-kept : goal.decreases-loop-kept
decreases-loop-kept l = length l.kept
