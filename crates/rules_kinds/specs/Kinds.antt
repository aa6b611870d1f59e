-- What stands after the code of a command, by the table.
use Rattle.std.specs.Prelude.{ℕ, Bool, true, false, Option, Some, None}
use Rattle.rules.specs.declared.tables.Argument.{Argument}
use Rattle.rules.specs.declared.tables.Argument.TheVariants.{Sixteen, Nil, Index, Alternatives, Parameters, Sequence}
use Rattle.rules.specs.declared.tables.Command.{Command}
use Rattle.rules.specs.Commands.{commands, row_of}
use Rattle.rules.specs.Tables.{listed}

abbrev pub kind_in : Option Command → Argument
kind_in (Some c) = c.argument
kind_in None = Nil

unfoldable pub kind_of : ℕ → Argument
kind_of code = kind_in (listed (row_of code commands))

-- whether it is a sequence, or alternatives
abbrev pub is_sequence : Argument → Bool
is_sequence Sixteen = false
is_sequence Nil = false
is_sequence Index = false
is_sequence Alternatives = false
is_sequence Parameters = false
is_sequence Sequence = true

abbrev pub is_alternatives : Argument → Bool
is_alternatives Sixteen = false
is_alternatives Nil = false
is_alternatives Index = false
is_alternatives Alternatives = true
is_alternatives Parameters = false
is_alternatives Sequence = false
