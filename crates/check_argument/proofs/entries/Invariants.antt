use mathlib.Core.Path.{◌≡◌}
use Prim.Native.Nat.{◌-◌}
use Rattle.rules.specs.Check.{nothing, entries}
use Rattle.cbor_reading.specs.Reading.{after}
use Rattle.check_argument.proofs.entries.Given as goal

-- the reading of all is the reading of what is left
abbrev pub invariant-loop : goal.invariant-loop
invariant-loop l = after (entries l.s l.components l.count 0 nothing l.end l.at) ≡ after (entries l.s l.components (l.count - l.counter) l.low nothing l.end l.p)
