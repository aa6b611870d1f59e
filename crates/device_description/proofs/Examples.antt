-- Worked descriptions: what a text says, and the line where one is refused.
use Prim.Native.String.{String}
use mathlib.Core.Path.{◌≡◌, refl}
use mathlib.Core.List.{List, [], ◌∷◌, ◌++◌, map}
use mathlib.Core.Bool.{true, false}
use Rattle.std.specs.Prelude.{None}
use Rattle.std.specs.Option.{unwrap_or}
use lib.ListN.{replicate}
use Rattle.rules.specs.Bytes.{Bytes}
use Rattle.text.specs.Text.{ascii, position}
use Rattle.device_text.specs.Words.{lines, first_blank, skip, trim, content, word, rest, one_more, number_from, number, digit, all_digits, unhex, bytes, is_bytes, up_to_bytes}
use Rattle.device_slots.specs.SlotText.{is_image, image, is_state, is_slot, identifier, slot, status, is_answer, answer}
use Rattle.device_description.specs.Scenario.{start, verdict_line, vendor_line, class_line, number_line, event_line, setting, Said, slot_line, answer_line, line, lines_from, described}

-- lines, each with its end
abbrev pub text : List String → Bytes
text [] = []
text (l ∷ ls) = ascii l ++ (10 ∷ []) ++ text ls

-- rooms for 2 slots and 1 answer
unfoldable pub says : List String → Said
unfolding position lines first_blank skip trim content word rest one_more number_from number digit all_digits unhex bytes is_bytes up_to_bytes is_image image is_state is_slot identifier
    slot status is_answer answer start verdict_line vendor_line class_line number_line event_line setting slot_line answer_line line lines_from described
says ls = described 148 37 (text ls)

abbrev pub digest : Bytes
digest = 0 ∷ 17 ∷ 34 ∷ 51 ∷ 68 ∷ 85 ∷ 102 ∷ 119 ∷ 136 ∷ 153 ∷ 170 ∷ 187 ∷ 204 ∷ 221 ∷ 238 ∷ 255 ∷ 1 ∷ 35 ∷ 69 ∷ 103 ∷ 137 ∷ 171 ∷ 205 ∷ 239 ∷ 254 ∷ 220 ∷ 186 ∷ 152 ∷ 118 ∷ 84 ∷ 50 ∷ 16 ∷ []

-- the slot of the bench sheet's case 2 (examples/depot/gate.txt), an absent one, and an answer
pub gate : says
    ("# turnstile 12"
    ∷ ""
    ∷ "verdict bad  "
    ∷ "class 000102030405060708090a0b0c0d0e0F"
    ∷ "number 4294967295"
    ∷ "event open"
    ∷ "slot 8245466c61736843003401 65536 present 34768 00112233445566778899aabbccddeeff0123456789abcdefFEDCBA9876543210"
    ∷ "slot 8142ee00 200 absent"
    ∷ "answer 7 34768 00112233445566778899aabbccddeeff0123456789abcdeffedcba9876543210"
    ∷ [])
    ≡ record {
      scenario =
          record {
            verdict = false;
            vendor = replicate 16 0;
            class = 0 ∷ 1 ∷ 2 ∷ 3 ∷ 4 ∷ 5 ∷ 6 ∷ 7 ∷ 8 ∷ 9 ∷ 10 ∷ 11 ∷ 12 ∷ 13 ∷ 14 ∷ 15 ∷ [];
            number = 4294967295;
            event = true;
            slots = 148;
            answers = 37;
            refused = None;
          };
      slots =
          11 ∷ 130 ∷ 69 ∷ 70 ∷ 108 ∷ 97 ∷ 115 ∷ 104 ∷ 67 ∷ 0 ∷ 52 ∷ 1 ∷ replicate 21 0
          ++ (0 ∷ 1 ∷ 0 ∷ 0 ∷ 1 ∷ 0 ∷ 0 ∷ 135 ∷ 208 ∷ digest)
          ++ (4 ∷ 129 ∷ 66 ∷ 238 ∷ 0 ∷ replicate 28 0)
          ++ (0 ∷ 0 ∷ 0 ∷ 200 ∷ replicate 37 0);
      answers = 7 ∷ 0 ∷ 0 ∷ 135 ∷ 208 ∷ digest;
    }
unfolding says
gate = refl

-- blanks before, between and behind words, tabs among them, and comments behind values: the same as without them
pub loose : says
    ("   # turnstile 12"
    ∷ " \t\r"
    ∷ "\tverdict   bad\t# by hand"
    ∷ "number\t7# seven"
    ∷ "  event \t open \r"
    ∷ " slot\t8142ee00  200   absent  # nothing in it"
    ∷ "answer   7\t34768 \t00112233445566778899aabbccddeeff0123456789abcdeffedcba9876543210 #"
    ∷ [])
    ≡ says
    ("verdict bad"
    ∷ "number 7"
    ∷ "event open"
    ∷ "slot 8142ee00 200 absent"
    ∷ "answer 7 34768 00112233445566778899aabbccddeeff0123456789abcdeffedcba9876543210"
    ∷ [])
unfolding says
loose = refl

-- and what they say is this
pub loose_says : map (λ ls. (says ls).scenario.number) (("\t number  7 # seven" ∷ []) ∷ ("number 7 #8" ∷ []) ∷ ("number 7#8" ∷ []) ∷ [])
    ≡ 7 ∷ 7 ∷ 7 ∷ []
unfolding says
loose_says = refl

-- each of these is refused at the line whose number stands behind it
pub faults :
    map (λ ls. unwrap_or (says ls).scenario.refused 0)
    (("verdict maybe" ∷ [])
    ∷ ("" ∷ "number 4294967296" ∷ [])
    ∷ ("number 1 2" ∷ [])
    ∷ ("number" ∷ [])
    ∷ ("Number 1" ∷ [])
    ∷ ("number # 1" ∷ [])
    ∷ ("\tverdict good # so" ∷ "verdict good so" ∷ [])
    ∷ ("vendor 00" ∷ [])
    ∷ ("# one" ∷ "# two" ∷ "colour red" ∷ [])
    ∷ ("slot 814 200 absent" ∷ [])
    ∷ ("slot 81 200 present" ∷ [])
    ∷ ("slot 81 200 absent" ∷ "slot 82 200 absent" ∷ "slot 83 200 absent" ∷ [])
    ∷ ("answer 256 1 00112233445566778899aabbccddeeff0123456789abcdeffedcba9876543210" ∷ [])
    ∷ ("answer good 1 00112233445566778899aabbccddeeff0123456789abcdeffedcba98765432" ∷ [])
    ∷ [])
    ≡ 1 ∷ 2 ∷ 1 ∷ 1 ∷ 1 ∷ 1 ∷ 2 ∷ 1 ∷ 3 ∷ 1 ∷ 1 ∷ 3 ∷ 1 ∷ 1 ∷ []
unfolding says
faults = refl
