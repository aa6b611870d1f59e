use Prim.Native.Nat.{ℕ}
use mathlib.Core.Path.{◌≡◌}
use mathlib.Core.List.{[]}
use lib.ListN.{drop}
use Rattle.rules.specs.declared.tables.Command.{Command}
use Rattle.std.specs.Prelude.{Some}
use Rattle.rules.specs.Commands.{commands}
use Rattle.rules.specs.Tables.{packed, table_of}
use Rattle.rules_tables.proofs.StoreLaws.{stored}
use Rattle.rules_tables.proofs.with_commands.Given as goal

abbrev pub place : Command → ℕ
place r = r.code

abbrev pub value : Command → ℕ
value r = packed (Some r)

abbrev pub invariant-loop-row : goal.invariant-loop-row
invariant-loop-row l = stored place value (drop l.row-index l.fn.rows) l.table ≡ table_of commands []
