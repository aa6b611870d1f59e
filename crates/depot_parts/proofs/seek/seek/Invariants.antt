use mathlib.Core.Path.{◌≡◌}
use Rattle.depot_parts.specs.Seek.{seek}
use Rattle.depot_parts.proofs.seek.seek.Given as goal

-- The invariant: what is sought among the entries that are left is what is sought among all.
abbrev pub invariant-loop-after : goal.invariant-loop-after
invariant-loop-after l = seek l.s l.place l.keyed l.e l.after l.next ≡ seek l.s l.place l.keyed l.e l.count l.at
