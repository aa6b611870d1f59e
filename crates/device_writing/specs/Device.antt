-- A device as the text that describes it (docs/DEPOT.md).
use Rattle.std.specs.Prelude.{ℕ, ◌+◌, ◌*◌, ◌/◌, cond, ◌++◌, eqb, length, get_or}
use Rattle.rules.specs.Bytes.{Bytes, part, four_at}
use Rattle.rules.specs.Limits.{limits}
use Rattle.rules.specs.Slots.{slot_bytes, id_from, capacity_from, image_from, size_from, digest_from}
use Rattle.text.specs.Text.{ascii, decimal, hex, least}
use Rattle.text_pieces.specs.Pieces.{between, labelled, lines}
use Rattle.device_description.specs.declared.Scenario.{Scenario}

-- a vendor or a class
unfoldable pub name_line : Bytes → Bytes → Bytes
name_line label x = label ++ hex x ++ ascii "\n"

unfoldable pub number_line : ℕ → Bytes
number_line n = labelled (ascii "number ") n ++ ascii "\n"

-- the lines that set a value
unfoldable pub setting_lines : Scenario → ℕ → Bytes
setting_lines d n =
    cond d.verdict (ascii "verdict good\n") (ascii "verdict bad\n") ++ name_line (ascii "vendor ") d.vendor ++ name_line (ascii "class ") d.class
    ++ number_line n ++ cond d.event (ascii "event open\n") (ascii "event closed\n")

-- a slot, of which x has the bytes: its identifier and capacity; whether it is present, size and digest
unfoldable pub own_text : Bytes → Bytes
own_text x = ascii "slot " ++ hex (between x id_from (id_from + least (get_or x 0 0) limits.identifier)) ++ labelled (ascii " ") (four_at x capacity_from)

abbrev pub state_text : ℕ → Bytes
state_text present = cond (eqb present 0) (ascii " absent ") (ascii " present ")

unfoldable pub image_text : Bytes → Bytes
image_text x =
    state_text (get_or x image_from 0) ++ decimal (four_at x (image_from + size_from)) ++ ascii " " ++ hex (between x (image_from + digest_from) slot_bytes) ++ ascii "\n"

unfoldable pub slot_line : Bytes → Bytes
slot_line x = own_text x ++ image_text x

-- the slot of number k; and all that are whole
unfoldable pub slot_of : Bytes → ℕ → Bytes
slot_of s k = slot_line (part s (slot_bytes * k) slot_bytes)

unfoldable pub slot_lines : Bytes → Bytes
slot_lines s = lines (slot_of s) (length s / slot_bytes)

-- a device with that number and those slots
unfoldable pub device_text : Scenario → ℕ → Bytes → Bytes
device_text d n s = setting_lines d n ++ slot_lines s
