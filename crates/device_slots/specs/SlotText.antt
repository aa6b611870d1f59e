-- Slots and answers as words of a text, and their bytes. docs/DEPOT.md has the format.
use Rattle.std.specs.Prelude.{ℕ, ◌-◌, ◌/◌, ◌%◌, Bool, true, false, cond, Option, Some, None, [], ◌∷◌, ◌++◌, eqb, ltb, leb, length, replicate}
use Rattle.rules.specs.Bytes.{Bytes, be4, same}
use Rattle.rules.specs.Limits.{limits}
use Rattle.rules.specs.Slots.{answer_bytes, size_from}
use Rattle.text.specs.Text.{ascii}
use Rattle.device_text.specs.Words.{word, rest, number, no_number, is_number, bytes, is_bytes, up_to_bytes}

abbrev pub zeros : ℕ → Bytes
zeros n = replicate n 0

-- an image: SIZE DIGEST. In a slot and an answer one byte stands before it
abbrev pub content_bytes : ℕ
content_bytes = answer_bytes - size_from

unfoldable pub is_image : Bytes → Bool
is_image t = cond (is_number (word t)) (is_bytes limits.digest (rest t)) false

-- one that is left out has size 0 and a digest of zeros
unfoldable pub image : Bytes → Bytes
image t = cond (eqb (length t) 0) (zeros content_bytes) (be4 (number (word t)) ++ bytes (rest t))

-- a slot: IDENTIFIER CAPACITY present IMAGE, or IDENTIFIER CAPACITY absent, and an image or none
unfoldable pub is_state : Bytes → Bytes → Bool
is_state w t =
    cond (same w (ascii "present")) (is_image t)
    (cond (same w (ascii "absent")) (cond (eqb (length t) 0) true (is_image t))
    false)

unfoldable pub is_slot : Bytes → Bool
is_slot t =
    cond (up_to_bytes limits.identifier (word t))
    (cond (is_number (word (rest t)))
    (is_state (word (rest (rest t))) (rest (rest (rest t))))
    false)
    false

abbrev pub presence : Bytes → ℕ
presence w = cond (same w (ascii "present")) 1 0

-- its identifier, the length first
unfoldable pub identifier : Bytes → Bytes
identifier w = (length w / 2 % 256 ∷ []) ++ bytes w ++ zeros (limits.identifier - length w / 2)

-- its bytes (the layout of rules, Slots)
unfoldable pub slot : Bytes → Bytes
slot t =
    identifier (word t) ++ be4 (number (word (rest t))) ++ (presence (word (rest (rest t))) ∷ []) ++ image (rest (rest (rest t)))

-- an answer: STATUS IMAGE, and its bytes; the status is good, bad or a number of one byte
abbrev pub largest_status : ℕ
largest_status = 255

unfoldable pub status : Bytes → ℕ
status w = cond (same w (ascii "good")) 0 (cond (same w (ascii "bad")) 1 (number w))

-- the same as the code has it
abbrev pub a_status : Bytes → Option ℕ
a_status w = cond (ltb (status w) no_number) (Some (status w)) None

unfoldable pub is_answer : Bytes → Bool
is_answer t = cond (leb (status (word t)) largest_status) (is_image (rest t)) false

unfoldable pub answer : Bytes → Bytes
answer t = (status (word t) % 256 ∷ []) ++ image (rest t)
