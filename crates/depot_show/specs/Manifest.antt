-- A manifest: its number, its components, its sections, and the order in which each group runs.
use Rattle.std.specs.Prelude.{ℕ, ◌+◌, ◌*◌, cond, List, [], ◌++◌, eqb, get_or}
use Rattle.rules.specs.Bytes.{Bytes}
use Rattle.rules.specs.Commands.{section_key}
use Rattle.rules.specs.Limits.{limits, section_count}
use Rattle.text.specs.Text.{ascii, newline, least}
use Rattle.text_pieces.specs.Pieces.{between, labelled, coded, lines}
use Rattle.text_names.specs.Words.{section_words}
use Rattle.depot_identifiers.specs.Identifier.{identifier_text}
use Rattle.depot_order.specs.Order.{groups_text}
use Rattle.depot_show.specs.Shown.{sequence_shown}

-- component k, whose identifier stands from `from` to `to`
unfoldable pub component_text : Bytes → ℕ → ℕ → ℕ → Bytes
component_text s k from to =
    labelled (ascii "component ") k ++ ascii "  " ++ identifier_text (between s from to) ++ labelled (ascii "  at ") from ++ newline

-- the first n
unfoldable pub components_text : Bytes → List ℕ → ℕ → Bytes
components_text s ids n = lines (λ k. component_text s k (get_or ids (2 * k) 0) (get_or ids (2 * k + 1) 0)) n

-- the section under `key`, whose sequence stands from `from` to `to`; one that is not there ends at 0
unfoldable pub section_text : Bytes → ℕ → ℕ → ℕ → Bytes
section_text s key from to =
    cond (eqb to 0) [] (section_words key ++ coded key ++ newline ++ (sequence_shown s limits.depth to from).0)

-- section j, by the places of all
abbrev pub section_at : Bytes → List ℕ → ℕ → Bytes
section_at s places j = section_text s (section_key j) (get_or places (2 * j) 0) (get_or places (2 * j + 1) 0)

unfoldable pub sections_text : Bytes → List ℕ → Bytes
sections_text s places = lines (section_at s places) section_count

-- by the number, how many components there are, and the places of the identifiers and of the sections
unfoldable pub parts_text : Bytes → ℕ → ℕ → List ℕ → List ℕ → Bytes
parts_text s number components ids sections =
    labelled (ascii "number ") number ++ newline ++ components_text s ids (least components limits.components) ++ sections_text s sections
    ++ groups_text sections
