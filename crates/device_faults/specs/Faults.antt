-- Why a line of a device description is refused, as text. The tests stand in the reader's order.
use Rattle.std.specs.Prelude.{ℕ, cond, ◌++◌, eqb, leb, length, take}
use Rattle.rules.specs.Bytes.{Bytes, same}
use Rattle.rules.specs.Limits.{limits}
use Rattle.text.specs.Text.{ascii, quoted}
use Rattle.text_pieces.specs.Pieces.{labelled}
use Rattle.device_text.specs.Words.{line_of, word, rest, is_number, is_bytes, up_to_bytes}
use Rattle.device_slots.specs.SlotText.{status, largest_status}
use Rattle.device_description.specs.Scenario.{most_slots, most_answers}

-- a line that begins with an unknown word, of which so many bytes are shown
abbrev pub shown_bytes : ℕ
shown_bytes = 32

unfoldable pub unknown_text : Bytes → Bytes
unknown_text w = ascii "no line begins with " ++ quoted (take shown_bytes w)

-- a vendor or a class
unfoldable pub sixteen_text : Bytes → Bytes
sixteen_text w = w ++ labelled (ascii " is ") limits.class ++ ascii " bytes in hexadecimal"

-- a line that begins with that word and is to set a value
unfoldable pub setting_fault : Bytes → Bytes
setting_fault w =
    cond (same w (ascii "verdict")) (ascii "verdict is good or bad")
    (cond (same w (ascii "vendor")) (sixteen_text w)
    (cond (same w (ascii "class")) (sixteen_text w)
    (cond (same w (ascii "number")) (labelled (ascii "number is a decimal number up to ") limits.largest)
    (cond (same w (ascii "event")) (ascii "event is open or closed")
    (unknown_text w)))))

-- size and digest, of a slot or an answer; if they are good, there are more of those things than fit
abbrev pub digest_text : Bytes → Bytes
digest_text name = name ++ labelled (ascii ": the digest is not ") limits.digest ++ ascii " bytes in hexadecimal"

abbrev pub too_many : ℕ → Bytes → Bytes
too_many most name = labelled (ascii "more than ") most ++ ascii " " ++ name ++ ascii "s"

unfoldable pub image_fault : Bytes → ℕ → Bytes → Bytes
image_fault name most t =
    cond (is_number (word t))
    (cond (is_bytes limits.digest (rest t)) (too_many most name)
    (digest_text name))
    (name ++ labelled (ascii ": the size is no number up to ") limits.largest)

-- whether a slot is present, and its image
unfoldable pub state_fault : Bytes → Bytes → Bytes
state_fault w t =
    cond (same w (ascii "present")) (image_fault (ascii "slot") most_slots t)
    (cond (same w (ascii "absent")) (cond (eqb (length t) 0) (too_many most_slots (ascii "slot")) (image_fault (ascii "slot") most_slots t))
    (ascii "slot: neither present nor absent"))

abbrev pub identifier_text : Bytes
identifier_text = labelled (ascii "slot: the identifier is not 1 to ") limits.identifier ++ ascii " bytes in hexadecimal"

unfoldable pub slot_fault : Bytes → Bytes
slot_fault t =
    cond (up_to_bytes limits.identifier (word t))
    (cond (is_number (word (rest t)))
    (state_fault (word (rest (rest t))) (rest (rest (rest t))))
    (labelled (ascii "slot: the capacity is no number up to ") limits.largest))
    identifier_text

unfoldable pub answer_fault : Bytes → Bytes
answer_fault t =
    cond (leb (status (word t)) largest_status) (image_fault (ascii "answer") most_answers (rest t))
    (labelled (ascii "answer: the status is not good, bad or a number up to ") largest_status)

unfoldable pub line_fault : Bytes → Bytes
line_fault l =
    cond (same (word l) (ascii "slot")) (slot_fault (rest l))
    (cond (same (word l) (ascii "answer")) (answer_fault (rest l))
    (setting_fault (word l)))

-- the line of number n, which was refused
unfoldable pub fault_text : Bytes → ℕ → Bytes
fault_text s n = labelled (ascii "line ") n ++ ascii ": " ++ line_fault (line_of n s) ++ ascii "\n"
