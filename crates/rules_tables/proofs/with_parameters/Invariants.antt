use Prim.Native.Nat.{ℕ, ◌+◌}
use mathlib.Core.Path.{◌≡◌}
use lib.ListN.{drop}
use Rattle.rules.specs.declared.tables.ParameterRow.{ParameterRow}
use Rattle.rules.specs.Tables.{codes, parameter_number, by_number}
use Rattle.rules_tables.proofs.StoreLaws.{stored}
use Rattle.rules_tables.proofs.with_parameters.Given as goal

abbrev pub place : ParameterRow → ℕ
place r = codes + r.key

abbrev pub value : ParameterRow → ℕ
value r = parameter_number r.parameter

abbrev pub invariant-loop-row : goal.invariant-loop-row
invariant-loop-row l = stored place value (drop l.row-index l.fn.rows) l.table ≡ by_number
