-- The text of a program: a line for the program, for each component, each record and each parameter (01, The flat program).
use Rattle.std.specs.Prelude.{ℕ, zero, suc, cond, [], ◌++◌, eqb, ltb, length, get_or, take, drop}
use Rattle.rules.specs.declared.answers.Group.TheVariants.{Boot}
use Rattle.rules.specs.Bytes.{two_at, four_at}
use Rattle.rules.specs.Answers.{group_number}
use Rattle.rules.specs.ProgramFormat.{group_from, number_from, components_from, records_from, start_size, length_from, name_size}
use Rattle.text.specs.Text.{Bytes, ascii}
use Rattle.text_pieces.specs.Pieces.{labelled, counted}
use Rattle.depot_identifiers.specs.Identifier.{identifier_text}
use Rattle.depot_argument_lines.specs.Items.{size_in, items_text}
use Rattle.depot_record_lines.specs.Lines.{missing_text, records_text}

-- what follows k items; nothing, if one is missing
unfoldable pub after_items : (Bytes → ℕ) → ℕ → Bytes → Bytes
after_items size zero s = s
after_items size (suc k) s = cond (eqb (size s) 0) [] (after_items size k (drop (size s) s))

-- 'mark, FD, length 1, identifier'
unfoldable pub component_size : Bytes → ℕ
component_size s = size_in s name_size (get_or s length_from 0)

unfoldable pub component_text : ℕ → Bytes → Bytes
component_text n s = labelled (ascii "component ") n ++ ascii "  " ++ identifier_text (take (get_or s length_from 0) (drop name_size s)) ++ ascii "\n"

unfoldable pub components_text : ℕ → Bytes → Bytes
components_text count s = items_text component_size component_text missing_text count 0 s

unfoldable pub after_components : ℕ → Bytes → Bytes
after_components count s = after_items component_size count s

-- 'group (0 install, 1 boot)'
unfoldable pub group_text : ℕ → Bytes
group_text group = cond (eqb group (group_number Boot)) (ascii "boot") (ascii "install")

unfoldable pub counts_text : ℕ → ℕ → Bytes
counts_text components records =
    counted (ascii ", ") components (ascii " component") ++ counted (ascii ", ") records (ascii " record") ++ ascii "\n"

-- 'mark, FE, group [..], sequence number 4, component count 1, command record count 2'
unfoldable pub start_text : Bytes → Bytes
start_text p =
    group_text (get_or p group_from 0) ++ labelled (ascii " program, number ") (four_at p number_from) ++ counts_text (get_or p components_from 0) (two_at p records_from)

unfoldable pub program_text : Bytes → Bytes
program_text p =
    cond (ltb (length p) start_size) (ascii "?\n")
    (start_text p ++ components_text (get_or p components_from 0) (drop start_size p) ++ records_text (two_at p records_from) (after_components (get_or p components_from 0) (drop start_size p)))
