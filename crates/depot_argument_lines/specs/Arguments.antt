-- The argument of a program's record, as the lines below the record's (01, The flat program).
use Rattle.std.specs.Prelude.{ℕ, ◌-◌, Bool, true, false, cond, [], ◌++◌, eqb, length, get_or, take, drop, replicate}
use Rattle.rules.specs.declared.tables.Argument.{Argument}
use Rattle.rules.specs.declared.tables.Argument.TheVariants as A
use Rattle.rules.specs.Limits.{limits}
use Rattle.rules.specs.ProgramFormat.{entry_length_from, entry_size}
use Rattle.rules_kinds.specs.Kinds.{kind_of}
use Rattle.text.specs.Text.{Bytes, ascii, hex}
use Rattle.text_names.specs.Words.{parameter_words}
use Rattle.depot_values.specs.Values.{value_text}
use Rattle.depot_argument_lines.specs.Items.{size_in, items_text}

-- the spaces before what stands below a record
abbrev pub indent : Bytes
indent = replicate 12 32

unfoldable pub parameter_size : Bytes → ℕ
parameter_size s = size_in s entry_size (get_or s entry_length_from 0)

unfoldable pub parameter_text : Bytes → Bytes
parameter_text s =
    indent ++ parameter_words (get_or s 0 0) ++ ascii " " ++ value_text (get_or s 0 0) (take (get_or s entry_length_from 0) (drop entry_size s)) ++ ascii "\n"

-- bytes that are no parameter
unfoldable pub stray_text : Bytes → Bytes
stray_text s = cond (eqb (length s) 0) [] (indent ++ ascii "?\n")

-- there is a key for each parameter but coerce
unfoldable pub parameters_text : Bytes → Bytes
parameters_text s = items_text parameter_size (λ n. parameter_text) stray_text (limits.parameters - 1) 0 s

unfoldable pub hex_text : Bytes → Bytes
hex_text s = cond (eqb (length s) 0) [] (indent ++ hex s ++ ascii "\n")

-- 'Arguments: 1 and 2, the 16 bytes; 19 and 20, for each parameter but coerce [..]; other codes none'
abbrev pub lists_parameters : Argument → Bool
lists_parameters A.Sixteen = false
lists_parameters A.Nil = false
lists_parameters A.Index = false
lists_parameters A.Alternatives = false
lists_parameters A.Parameters = true
lists_parameters A.Sequence = false

unfoldable pub argument_text : ℕ → Bytes → Bytes
argument_text code s = cond (lists_parameters (kind_of code)) (parameters_text s) (hex_text s)
