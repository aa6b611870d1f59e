use Prim.Native.Nat.{ℕ, ◌-◌}
use mathlib.Core.Path.{◌≡◌}
use Rattle.rules.specs.Got.{got}
use Rattle.rules.specs.Check.{entries}
use Rattle.run_slots.specs.Params.{Fit}
use Rattle.manifest_accessors.specs.Arguments.{given_of, Within, Entries}
use Rattle.manifest_accessors.proofs.arguments.read_entries.Given as goal

-- what was to be read is what was read and what is left
abbrev pub invariant-loop : goal.invariant-loop
invariant-loop l =
    (x : Entries l.s l.k l.at) → (low : ℕ) × (entries l.s x.n (l.k - l.counter) low (given_of l.s l.a) x.e l.a.next ≡ got (x.given, x.to)) × Fit l.s x.n l.a.params × Within l.s l.a.params
