-- The slots after a run, as text.
use Rattle.std.specs.Prelude.{ℕ, ◌+◌, ◌*◌, ◌/◌, cond, Option, Some, None, List, ◌++◌, eqb, length, get_or}
use Rattle.rules.specs.Slots.{slot_bytes, image_from, digest_from, slot_at}
use Rattle.run_slot_search.specs.Search.{names_at}
use Rattle.text.specs.Text.{Bytes, ascii, padded, hex}
use Rattle.text_pieces.specs.Pieces.{between, lines}
use Rattle.depot_slot_names.specs.Names.{found}
use Rattle.depot_identifiers.specs.Identifier.{identifier_text}

-- the component whose slot it is, if it is one's
unfoldable pub owner_text : Option ℕ → Bytes
owner_text owner = ascii "  component " ++ elim owner [ Some k ↦ padded 2 k | None ↦ ascii " -" ]

abbrev pub present_text : ℕ → Bytes
present_text present = cond (eqb present 0) (ascii "  absent ") (ascii "  present")

-- of the slot of number k: the image's size and the capacity; the image's digest and the identifier
unfoldable pub image_text : Bytes → ℕ → Bytes
image_text b k =
    present_text (get_or b (slot_bytes * k + image_from) 0) ++ ascii "  size " ++ padded 10 (slot_at b k).size ++ ascii "  capacity " ++ padded 10 (slot_at b k).capacity

unfoldable pub names_text : Bytes → ℕ → Bytes
names_text b k =
    ascii "  digest " ++ hex (between b (slot_bytes * k + (image_from + digest_from)) (slot_bytes * k + slot_bytes)) ++ ascii "  "
    ++ identifier_text (slot_at b k).id ++ ascii "\n"

unfoldable pub slot_text : Bytes → ℕ → Option ℕ → Bytes
slot_text b k owner = ascii "slot " ++ padded 2 k ++ owner_text owner ++ image_text b k ++ names_text b k

-- the first of the n components of s that has the slot's identifier owns it
unfoldable pub owned_text : Bytes → Bytes → List ℕ → ℕ → ℕ → Bytes
owned_text b s ids n k = slot_text b k (found (slot_at b k).id (names_at s ids n))

unfoldable pub slots_text : Bytes → Bytes → List ℕ → ℕ → Bytes
slots_text b s ids n = lines (owned_text b s ids n) (length b / slot_bytes)
