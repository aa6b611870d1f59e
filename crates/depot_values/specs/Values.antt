-- The value of a parameter in a program, as text.
use Rattle.std.specs.Prelude.{ℕ, cond, eqb, length, get_or, Option, Some, None}
use Rattle.rules.specs.declared.tables.Parameter.{Parameter}
use Rattle.rules.specs.declared.tables.Parameter.TheVariants as P
use Rattle.rules.specs.Bytes.{four_at}
use Rattle.rules.specs.Commands.{params, param_of}
use Rattle.rules.specs.ProgramFormat.{size_bytes, source_bytes}
use Rattle.rules.specs.Tables.{known}
use Rattle.text.specs.Text.{Bytes, decimal, hex, quoted}

-- a number of as many bytes as a size or a source
unfoldable pub number_text : Bytes → Bytes
number_text v = cond (eqb (length v) size_bytes) (decimal (four_at v 0)) (cond (eqb (length v) source_bytes) (decimal (get_or v 0 0)) (hex v))

-- the value of a parameter
abbrev pub known_text : Parameter → Bytes → Bytes
known_text P.Coerce v = number_text v
known_text P.Uri v = quoted v
known_text P.Source v = number_text v
known_text P.Digest v = hex v
known_text P.Size v = number_text v

abbrev pub value_in : Option Parameter → Bytes → Bytes
value_in (Some p) v = known_text p v
value_in None v = number_text v

unfoldable pub value_text : ℕ → Bytes → Bytes
value_text key v = value_in (known (param_of key params)) v
