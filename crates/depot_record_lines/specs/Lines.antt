-- The lines of a program's records (01, The flat program).
use Rattle.std.specs.Prelude.{ℕ, cond, ◌++◌, eqb, get_or, take, drop}
use Rattle.rules.specs.Bytes.{two_at}
use Rattle.rules.specs.Commands.{commands, row_of, condition_in}
use Rattle.rules.specs.ProgramFormat.{JUMP, NONE, code_from, component_from, place_from, target_from, argument_from}
use Rattle.rules.specs.ProgramFormat.{record_size as ProgramFormat·recordSize}
use Rattle.text.specs.Text.{Bytes, ascii, padded}
use Rattle.text_pieces.specs.Pieces.{labelled, coded}
use Rattle.text_rows.specs.Rows.{wide}
use Rattle.text_names.specs.Words.{command_words}
use Rattle.depot_argument_lines.specs.Items.{size_in, items_text}
use Rattle.depot_argument_lines.specs.Arguments.{argument_text}

unfoldable pub name_text : ℕ → Bytes
name_text code = command_words code ++ coded code

-- where the component stands in a line, from the command's name on
abbrev pub column : ℕ
column = 26

unfoldable pub line_text : ℕ → ℕ → ℕ → Bytes
line_text code component place =
    wide column (name_text code) ++ labelled (ascii "component ") component ++ ascii "  place " ++ padded 5 place

-- 'the record where a failure goes on, FFFF if uncaught'; 'the record count means finished'
unfoldable pub target_text : ℕ → ℕ → Bytes
target_text total target =
    cond (eqb target NONE) (ascii "ends") (cond (eqb target total) (ascii "finished") (labelled (ascii "record ") target))

-- a condition may fail so that a run goes on
unfoldable pub failure_text : ℕ → ℕ → ℕ → Bytes
failure_text total code target =
    cond (condition_in (row_of code commands)) (ascii "  on failure: " ++ target_text total target ++ ascii "\n") (ascii "\n")

unfoldable pub jump_text : ℕ → ℕ → Bytes
jump_text total target = cond (eqb target total) (ascii "jump, finished\n") (labelled (ascii "jump to record ") target ++ ascii "\n")

-- 'mark, code, component [..], place 2, target 2, argument length 2, argument'
unfoldable pub record_size : Bytes → ℕ
record_size s = size_in s ProgramFormat·recordSize (two_at s argument_from)

unfoldable pub command_text : ℕ → Bytes → Bytes
command_text total s =
    line_text (get_or s code_from 0) (get_or s component_from 0) (two_at s place_from) ++ failure_text total (get_or s code_from 0) (two_at s target_from)
    ++ argument_text (get_or s code_from 0) (take (two_at s argument_from) (drop ProgramFormat·recordSize s))

unfoldable pub record_text : ℕ → ℕ → Bytes → Bytes
record_text total n s =
    padded 4 n ++ ascii "  " ++ cond (eqb (get_or s code_from 0) JUMP) (jump_text total (two_at s target_from)) (command_text total s)

-- bytes in which a record should stand, and none does
abbrev pub missing_text : Bytes → Bytes
missing_text s = ascii "?\n"

unfoldable pub records_text : ℕ → Bytes → Bytes
records_text total s = items_text record_size (record_text total) missing_text total 0 s
