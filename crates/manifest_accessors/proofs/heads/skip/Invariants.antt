use Prim.Native.Nat.{◌-◌}
use mathlib.Core.Path.{◌≡◌}
use Rattle.rules.specs.Got.{got}
use Rattle.rules.specs.Check.{strings}
use Rattle.manifest_accessors.specs.Heads.{Strings}
use Rattle.manifest_accessors.proofs.heads.skip.Given as goal

-- what was to be read is what is left
abbrev pub invariant-loop : goal.invariant-loop
invariant-loop l = (x : Strings l.s l.k l.at) → strings l.s (l.k - l.counter) x.e l.p ≡ got x.to
