-- What the depot tool says of its command line and of files.
use Rattle.std.specs.Prelude.{ℕ, cond, ◌++◌, eqb}
use Rattle.text.specs.Text.{Bytes, ascii, decimal}
use Rattle.text_pieces.specs.Pieces.{labelled}
use Rattle.text_escaped.specs.Escaped.{escaped}
use Rattle.depot_messages.specs.declared.Message.{Message}
use Rattle.depot_messages.specs.declared.Message.TheVariants as M
use Rattle.depot_messages.specs.Errors.{error_words}
use Rattle.depot_messages.specs.Help.{help_text, version_text}

-- a name between two texts
unfoldable pub around : Bytes → Bytes → Bytes → Bytes
around before name after = before ++ escaped name ++ after

-- the first word names no job
unfoldable pub unknown_text : Bytes → Bytes
unknown_text word = around (ascii "depot: no command is called '") word (ascii "'; depot help lists them\n")

unfoldable pub words_text : ℕ → Bytes
words_text n = decimal n ++ cond (eqb n 1) (ascii " word") (ascii " words")

-- a job does not take n words behind the first
unfoldable pub count_text : Bytes → ℕ → Bytes
count_text word n =
    around (ascii "depot: '") word (ascii "' does not take ") ++ words_text n ++ ascii "; depot help says what it takes\n"

-- where `--then` is understood
unfoldable pub option_text : Bytes → Bytes
option_text word = around (ascii "depot: '") word (ascii "' stands where --then may stand\n")

unfoldable pub group_text : Bytes → Bytes
group_text word = around (ascii "depot: the group is install or boot, not '") word (ascii "'\n")

-- what stands before anything that is said of a file
unfoldable pub named_text : Bytes → Bytes
named_text name = around (ascii "depot: ") name (ascii ": ")

-- a file with over n bytes
unfoldable pub long_text : Bytes → ℕ → Bytes
long_text name n = named_text name ++ labelled (ascii "over ") n ++ ascii " bytes\n"

-- error n of a file
unfoldable pub error_text : Bytes → ℕ → Bytes
error_text name n = named_text name ++ error_words n ++ ascii "\n"

-- standard input has one reader
abbrev pub once_text : Bytes
once_text = ascii "depot: standard input can be read only once\n"

abbrev pub nested_text : Bytes
nested_text = ascii "depot: a batch runs no batch\n"

-- a command of a batch, and how it ended
unfoldable pub command_text : Bytes → Bytes
command_text line = around (ascii "$ depot ") line (ascii "\n")

unfoldable pub status_text : ℕ → Bytes
status_text n = labelled (ascii "status ") n ++ ascii "\n"

-- a message about a word, a line or a file's name, and a number
unfoldable pub message_text : Message → Bytes → ℕ → Bytes
message_text M.Help word n = help_text
message_text M.Version word n = version_text
message_text M.Unknown word n = unknown_text word
message_text M.Count word n = count_text word n
message_text M.Option word n = option_text word
message_text M.Group word n = group_text word
message_text M.Once word n = once_text
message_text M.Nested word n = nested_text
message_text M.Long word n = long_text word n
message_text M.Error word n = error_text word n
message_text M.Command word n = command_text word
message_text M.Status word n = status_text n
