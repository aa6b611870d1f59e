-- Worked faults: what is told of a text at the line where it is refused.
use Prim.Native.Nat.{◌*◌}
use Prim.Native.String.{String}
use mathlib.Core.Path.{◌≡◌, refl}
use mathlib.Core.List.{List, [], ◌∷◌, map}
use Rattle.std.specs.Option.{unwrap_or}
use lib.ListN.{replicate}
use Rattle.rules.specs.Bytes.{Bytes}
use Rattle.rules.specs.Slots.{slot_bytes, answer_bytes}
use Rattle.text.specs.Text.{ascii, position, digits, quoted}
use Rattle.text_pieces.specs.Pieces.{labelled}
use Rattle.device_text.specs.Words.{lines, behind_lines, first_blank, skip, trim, content, line_of, word, rest}
use Rattle.device_text.specs.Words.{one_more, number_from, number, digit, all_digits, unhex, bytes, is_bytes, up_to_bytes}
use Rattle.device_slots.specs.SlotText.{is_image, image, is_state, is_slot, identifier, slot, status, is_answer, answer}
use Rattle.device_description.specs.Scenario.{most_slots, most_answers, start, verdict_line, vendor_line, class_line, number_line, event_line, setting, slot_line, answer_line, line, lines_from, described}
use Rattle.device_description.proofs.Examples.{text}
use Rattle.device_faults.specs.Faults.{unknown_text, sixteen_text, setting_fault, image_fault, state_fault, slot_fault, answer_fault, line_fault, fault_text}

-- what is told at the line that the reader gives, in the depot's rooms
unfoldable pub tells : List String → Bytes
unfolding position digits quoted labelled lines behind_lines first_blank skip trim content line_of word rest one_more number_from number digit all_digits unhex bytes
    is_bytes up_to_bytes is_image image is_state is_slot identifier slot status is_answer answer start verdict_line vendor_line class_line number_line event_line setting
    slot_line answer_line line lines_from described unknown_text sixteen_text setting_fault image_fault state_fault slot_fault answer_fault line_fault fault_text
tells ls = fault_text (text ls) (unwrap_or (described (most_slots * slot_bytes) (most_answers * answer_bytes) (text ls)).scenario.refused 0)

-- each text tells what stands behind it
pub values :
    map tells
    (("verdict good" ∷ "" ∷ "  vresion 1  # so" ∷ [])
    ∷ ("verdict maybe" ∷ [])
    ∷ ("vendor 00" ∷ [])
    ∷ ("class" ∷ [])
    ∷ ("number 4294967296" ∷ [])
    ∷ ("event shut" ∷ [])
    ∷ ("a-word-of-more-than-thirty-two-bytes" ∷ [])
    ∷ [])
    ≡ map ascii
    ("line 3: no line begins with \"vresion\"\n"
    ∷ "line 1: verdict is good or bad\n"
    ∷ "line 1: vendor is 16 bytes in hexadecimal\n"
    ∷ "line 1: class is 16 bytes in hexadecimal\n"
    ∷ "line 1: number is a decimal number up to 4294967295\n"
    ∷ "line 1: event is open or closed\n"
    ∷ "line 1: no line begins with \"a-word-of-more-than-thirty-two-b\"\n"
    ∷ [])
unfolding tells
values = refl

pub slots :
    map tells
    (("slot 814 200 absent" ∷ [])
    ∷ ("slot 81 lots absent" ∷ [])
    ∷ ("slot 81 200 gone" ∷ [])
    ∷ ("slot 81 200 present" ∷ [])
    ∷ ("slot 81 200 absent 5 00" ∷ [])
    ∷ replicate 17 "slot 81 200 absent"
    ∷ [])
    ≡ map ascii
    ("line 1: slot: the identifier is not 1 to 32 bytes in hexadecimal\n"
    ∷ "line 1: slot: the capacity is no number up to 4294967295\n"
    ∷ "line 1: slot: neither present nor absent\n"
    ∷ "line 1: slot: the size is no number up to 4294967295\n"
    ∷ "line 1: slot: the digest is not 32 bytes in hexadecimal\n"
    ∷ "line 17: more than 16 slots\n"
    ∷ [])
unfolding tells
slots = refl

abbrev good : String
good = "answer good 1 00112233445566778899aabbccddeeff0123456789abcdeffedcba9876543210"

pub answers :
    map tells (("answer 256 1 00" ∷ []) ∷ ("answer 255 -1 00" ∷ []) ∷ ("answer bad 1 00" ∷ []) ∷ replicate 65 good ∷ [])
    ≡ map ascii
    ("line 1: answer: the status is not good, bad or a number up to 255\n"
    ∷ "line 1: answer: the size is no number up to 4294967295\n"
    ∷ "line 1: answer: the digest is not 32 bytes in hexadecimal\n"
    ∷ "line 65: more than 64 answers\n"
    ∷ [])
unfolding tells
answers = refl
