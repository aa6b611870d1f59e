use Prim.Native.Nat.{◌-◌}
use Rattle.rules.specs.Limits.{limits}
use Rattle.depot_argument_lines.specs.Arguments.{parameter_size}
use Rattle.depot_matches.specs.Values.{key_is, entry_in}
use Rattle.depot_matches.proofs.FindLaws.{Seeking}
use Rattle.depot_matches.proofs.values.value_in.Given as goal

abbrev pub invariant-loop : goal.invariant-loop
invariant-loop l = Seeking parameter_size (key_is l.key) entry_in (limits.parameters - 1) l.s l.counter l.rest
