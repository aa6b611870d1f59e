-- A device that is written reads back as the same.
use Prim.Native.Nat.{ℕ}
use mathlib.Core.Path.{◌≡◌, refl}
use mathlib.Core.List.{[], ◌∷◌, ◌++◌}
use mathlib.Core.Bool.{true, false}
use Rattle.std.specs.Prelude.{None}
use lib.ListN.{replicate}
use Rattle.rules.specs.Bytes.{Bytes}
use Rattle.text.specs.Text.{ascii, position, digits, hex}
use Rattle.text_pieces.specs.Pieces.{between, labelled}
use Rattle.text_pieces.specs.Pieces.{lines as repeated}
use Rattle.device_text.specs.Words.{lines, first_blank, skip, trim, content, word, rest}
use Rattle.device_text.specs.Words.{one_more, number_from, number, digit, all_digits, unhex, bytes, is_bytes, up_to_bytes}
use Rattle.device_slots.specs.SlotText.{is_image, image, is_state, is_slot, identifier, slot, status, is_answer, answer}
use Rattle.device_description.specs.Scenario.{Said, start, verdict_line, vendor_line, class_line, event_line, setting, answer_line, line, lines_from, described}
use Rattle.device_description.specs.Scenario.{number_line as readNumber, slot_line as read_slot}
use Rattle.device_description.specs.declared.Scenario.{Scenario}
use Rattle.device_description.proofs.Examples.{digest}
use Rattle.device_writing.specs.Device.{name_line, number_line, setting_lines, own_text, image_text, slot_line, slot_of, slot_lines, device_text}

unfoldable pub written : Scenario → ℕ → Bytes → Bytes
unfolding digits hex between labelled repeated name_line number_line setting_lines own_text image_text slot_line slot_of slot_lines device_text
written d n s = device_text d n s

-- in rooms for 2 slots and 1 answer
unfoldable pub read_again : Scenario → ℕ → Bytes → Said
unfolding position lines first_blank skip trim content word rest one_more number_from number digit all_digits unhex bytes is_bytes up_to_bytes is_image image is_state
    is_slot identifier slot status is_answer answer start verdict_line vendor_line class_line readNumber event_line setting read_slot answer_line line lines_from described written
read_again d n s = described 148 37 (written d n s)

abbrev class : Bytes
class = 0 ∷ 1 ∷ 2 ∷ 3 ∷ 4 ∷ 5 ∷ 6 ∷ 7 ∷ 8 ∷ 9 ∷ 10 ∷ 11 ∷ 12 ∷ 13 ∷ 14 ∷ 255 ∷ []

-- a device before a run, of which 148 bytes are slots and 37 were answers
abbrev pub gate : Scenario
gate =
    record {
      verdict = false;
      vendor = replicate 16 0;
      class = class;
      number = 7;
      event = true;
      slots = 148;
      answers = 37;
      refused = None;
    }

-- one slot with an image, and one that holds nothing and yet has a size and a digest
abbrev pub slots : Bytes
slots =
    11 ∷ 130 ∷ 69 ∷ 70 ∷ 108 ∷ 97 ∷ 115 ∷ 104 ∷ 67 ∷ 0 ∷ 52 ∷ 1 ∷ replicate 21 0
    ++ (0 ∷ 1 ∷ 0 ∷ 0 ∷ 1 ∷ 0 ∷ 0 ∷ 135 ∷ 208 ∷ digest)
    ++ (4 ∷ 129 ∷ 66 ∷ 238 ∷ 0 ∷ replicate 28 0)
    ++ (255 ∷ 255 ∷ 255 ∷ 255 ∷ 0 ∷ 0 ∷ 0 ∷ 0 ∷ 9 ∷ digest)

-- its text, after a run that has set the number
pub gate-text : written gate 4294967295 slots
    ≡ ascii "verdict bad\n"
    ++ ascii "vendor 00000000000000000000000000000000\n"
    ++ ascii "class 000102030405060708090a0b0c0d0eff\n"
    ++ ascii "number 4294967295\n"
    ++ ascii "event open\n"
    ++ ascii "slot 8245466c61736843003401 65536 present 34768 00112233445566778899aabbccddeeff0123456789abcdeffedcba9876543210\n"
    ++ ascii "slot 8142ee00 4294967295 absent 9 00112233445566778899aabbccddeeff0123456789abcdeffedcba9876543210\n"
unfolding written
gate-text = refl

-- which reads as the same device and the same slots, with no answers
pub gate-again : read_again gate 4294967295 slots
    ≡ record {
      scenario =
          record {
            verdict = false;
            vendor = replicate 16 0;
            class = class;
            number = 4294967295;
            event = true;
            slots = 148;
            answers = 0;
            refused = None;
          };
      slots = slots;
      answers = [];
    }
unfolding read_again
gate-again = refl
