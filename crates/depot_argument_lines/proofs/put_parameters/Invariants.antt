use Prim.Native.Nat.{◌-◌}
use Rattle.rules.specs.Limits.{limits}
use Rattle.depot_argument_lines.specs.Arguments.{parameter_size, parameter_text, stray_text}
use Rattle.depot_argument_lines.proofs.ItemLaws.{Going}
use Rattle.depot_argument_lines.proofs.put_parameters.Given as goal

abbrev pub invariant-loop : goal.invariant-loop
invariant-loop l = Going parameter_size (λ n. parameter_text) stray_text (limits.parameters - 1) l.s l.at l.initial.room l.counter l.rest l.to l.room
