use mathlib.Core.Path.{◌≡◌}
use lib.ListN.{drop}
use Rattle.text_rows.specs.Rows.{after}
use Rattle.text_rows.proofs.skip.Given as goal

abbrev pub invariant-loop-i : goal.invariant-loop-i
invariant-loop-i l = (after l.left (drop l.i l.s) ≡ after l.k l.s)
