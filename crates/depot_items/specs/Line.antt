-- The pieces of a line.
use Rattle.std.specs.Prelude.{ℕ, ◌-◌, ◌*◌, cond, [], ◌++◌, eqb, ltb, length, replicate}
use Rattle.rules.specs.Bytes.{Bytes, part}
use Rattle.rules.specs.Limits.{limits}
use Rattle.rules.specs.Cbor.{NUMBER, BYTES, TEXT, ARRAY, MAP, FALSE, TRUE, NIL}
use Rattle.text.specs.Text.{ascii, newline, decimal, padded, hex, quoted}
use Rattle.text_pieces.specs.Pieces.{labelled, counted, coded}
use Rattle.text_names.specs.Words.{command_words, parameter_words}
use Rattle.depot_items.specs.declared.Item.{Item}

-- what stands for an item that is not there
abbrev pub mark : Bytes
mark = ascii "?"

-- some columns, and two more for each level: a section is itself a sequence, and its commands hold sequences one less deep
unfoldable pub margin_text : ℕ → ℕ → Bytes
margin_text columns depth = replicate columns 32 ++ replicate (2 * (limits.depth - 1 - depth)) 32

-- a command's place, name and code
unfoldable pub title_text : ℕ → ℕ → ℕ → Bytes
title_text depth at code = padded 6 at ++ margin_text 2 depth ++ command_words code ++ coded code

-- the string from `from` to `to`: a text in quotes, any other in hexadecimal
unfoldable pub string_text : Bytes → ℕ → ℕ → ℕ → Bytes
string_text s kind from to =
    cond (ltb (length s) to) mark
    (cond (ltb to from) mark
    (cond (eqb kind TEXT) (quoted (part s from (to - from))) (hex (part s from (to - from)))))

unfoldable pub item_text : Bytes → Item → Bytes
item_text s i =
    cond (eqb i.kind NUMBER) (decimal i.num)
    (cond (eqb i.kind BYTES) (string_text s BYTES i.next i.after)
    (cond (eqb i.kind TEXT) (string_text s TEXT i.next i.after)
    (cond (eqb i.kind FALSE) (ascii "false")
    (cond (eqb i.kind TRUE) (ascii "true")
    mark))))

-- an argument on its command's line
unfoldable pub argument_text : Bytes → Item → Bytes
argument_text s i =
    cond (eqb i.kind NIL) []
    (cond (eqb i.kind MAP) []
    (cond (eqb i.kind ARRAY) (counted (ascii ", ") i.num (ascii " alternative"))
    (ascii " " ++ item_text s i)))

-- the line above alternative n
unfoldable pub alternative_text : ℕ → ℕ → Bytes
alternative_text depth n = margin_text 8 depth ++ labelled (ascii "alternative ") n ++ newline

-- a parameter and its value
unfoldable pub parameter_text : Bytes → ℕ → ℕ → Item → Bytes
parameter_text s depth key i = margin_text 10 depth ++ parameter_words key ++ ascii " " ++ item_text s i ++ newline
