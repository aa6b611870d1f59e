-- Device descriptions: the input of a run (01, How a run goes) as a text. docs/DEPOT.md has the format.
use Rattle.std.specs.Prelude.{ℕ, suc, ◌+◌, ◌*◌, ◌≡◌, Bool, true, false, ◌&&◌, cond, Some, None, is_some, List, [], ◌∷◌, ◌++◌, eqb, leb, length}
use Rattle.rules.specs.Lent.{Lent, was, left}
use Rattle.rules.specs.Bytes.{Bytes, same, put}
use Rattle.rules.specs.Limits.{limits}
use Rattle.rules.specs.Slots.{slot_bytes, answer_bytes}
use Rattle.text.specs.Text.{ascii}
use Rattle.device_text.specs.Words.{lines, content, word, rest, number, is_number, bytes, is_bytes}
use Rattle.device_slots.specs.SlotText.{zeros, is_slot, slot, is_answer, answer}
use Rattle.device_description.specs.declared.Scenario.{Scenario}

-- the rooms that the depot lends have space for so many slots and answers
abbrev pub most_slots : ℕ
most_slots = 2 * limits.slots

abbrev pub most_answers : ℕ
most_answers = 64

-- what a text says before its first line
unfoldable pub start : Scenario
start =
    record {
      verdict = true;
      vendor = zeros limits.class;
      class = zeros limits.class;
      number = 0;
      event = false;
      slots = 0;
      answers = 0;
      refused = None;
    }

abbrev pub with_verdict : Bool → Scenario → Scenario
with_verdict x d =
    record {
      verdict = x;
      vendor = d.vendor;
      class = d.class;
      number = d.number;
      event = d.event;
      slots = d.slots;
      answers = d.answers;
      refused = d.refused;
    }

abbrev pub with_vendor : Bytes → Scenario → Scenario
with_vendor x d =
    record {
      verdict = d.verdict;
      vendor = x;
      class = d.class;
      number = d.number;
      event = d.event;
      slots = d.slots;
      answers = d.answers;
      refused = d.refused;
    }

abbrev pub with_class : Bytes → Scenario → Scenario
with_class x d =
    record {
      verdict = d.verdict;
      vendor = d.vendor;
      class = x;
      number = d.number;
      event = d.event;
      slots = d.slots;
      answers = d.answers;
      refused = d.refused;
    }

abbrev pub with_number : ℕ → Scenario → Scenario
with_number x d =
    record {
      verdict = d.verdict;
      vendor = d.vendor;
      class = d.class;
      number = x;
      event = d.event;
      slots = d.slots;
      answers = d.answers;
      refused = d.refused;
    }

abbrev pub with_event : Bool → Scenario → Scenario
with_event x d =
    record {
      verdict = d.verdict;
      vendor = d.vendor;
      class = d.class;
      number = d.number;
      event = x;
      slots = d.slots;
      answers = d.answers;
      refused = d.refused;
    }

abbrev pub with_slots : ℕ → Scenario → Scenario
with_slots x d =
    record {
      verdict = d.verdict;
      vendor = d.vendor;
      class = d.class;
      number = d.number;
      event = d.event;
      slots = x;
      answers = d.answers;
      refused = d.refused;
    }

abbrev pub with_answers : ℕ → Scenario → Scenario
with_answers x d =
    record {
      verdict = d.verdict;
      vendor = d.vendor;
      class = d.class;
      number = d.number;
      event = d.event;
      slots = d.slots;
      answers = x;
      refused = d.refused;
    }

-- line n is not understood: what the lines before it say, with n
abbrev pub refused_at : ℕ → Scenario → Scenario
refused_at n d =
    record {
      verdict = d.verdict;
      vendor = d.vendor;
      class = d.class;
      number = d.number;
      event = d.event;
      slots = d.slots;
      answers = d.answers;
      refused = Some n;
    }

-- line n, of one of the five that set a value: the word in front, and what stands behind it
unfoldable pub verdict_line : ℕ → Scenario → Bytes → Scenario
verdict_line n d t =
    cond (same t (ascii "good")) (with_verdict true d) (cond (same t (ascii "bad")) (with_verdict false d) (refused_at n d))

unfoldable pub vendor_line : ℕ → Scenario → Bytes → Scenario
vendor_line n d t = cond (is_bytes limits.class t) (with_vendor (bytes t) d) (refused_at n d)

unfoldable pub class_line : ℕ → Scenario → Bytes → Scenario
class_line n d t = cond (is_bytes limits.class t) (with_class (bytes t) d) (refused_at n d)

unfoldable pub number_line : ℕ → Scenario → Bytes → Scenario
number_line n d t = cond (is_number t) (with_number (number t) d) (refused_at n d)

unfoldable pub event_line : ℕ → Scenario → Bytes → Scenario
event_line n d t =
    cond (same t (ascii "open")) (with_event true d) (cond (same t (ascii "closed")) (with_event false d) (refused_at n d))

unfoldable pub setting : ℕ → Scenario → Bytes → Bytes → Scenario
setting n d w t =
    cond (same w (ascii "verdict")) (verdict_line n d t)
    (cond (same w (ascii "vendor")) (vendor_line n d t)
    (cond (same w (ascii "class")) (class_line n d t)
    (cond (same w (ascii "number")) (number_line n d t)
    (cond (same w (ascii "event")) (event_line n d t)
    (refused_at n d)))))

-- what a line says, and the bytes that it adds
pub record Said : Type 0 where
  pub scenario : Scenario
  pub slots : Bytes
  pub answers : Bytes

abbrev pub says : Scenario → Said
says d = record { scenario = d; slots = []; answers = [] }

-- a slot, in a room of m bytes; an answer, in a room of m bytes
unfoldable pub slot_line : ℕ → ℕ → Scenario → Bytes → Said
slot_line m n d t =
    cond (is_slot t && leb (d.slots + slot_bytes) m)
    (record { scenario = with_slots (d.slots + slot_bytes) d; slots = slot t; answers = [] })
    (says (refused_at n d))

unfoldable pub answer_line : ℕ → ℕ → Scenario → Bytes → Said
answer_line m n d t =
    cond (is_answer t && leb (d.answers + answer_bytes) m)
    (record { scenario = with_answers (d.answers + answer_bytes) d; slots = []; answers = answer t })
    (says (refused_at n d))

-- a line that says nothing
abbrev pub passed : Bytes → Bool
passed l = eqb (length l) 0

-- line n, in rooms of m bytes for slots and k for answers
unfoldable pub line : ℕ → ℕ → ℕ → Scenario → Bytes → Said
line m k n d l =
    cond (passed l) (says d)
    (cond (same (word l) (ascii "slot")) (slot_line m n d (rest l))
    (cond (same (word l) (ascii "answer")) (answer_line k n d (rest l))
    (says (setting n d (word l) (rest l)))))

-- what one line says, then the lines behind it
infixr 20 ◌then◌
abbrev pub ◌then◌ : Said → Said → Said
◌then◌ x y = record { scenario = y.scenario; slots = x.slots ++ y.slots; answers = x.answers ++ y.answers }

-- the lines from line n on, up to one that is refused
unfoldable pub lines_from : ℕ → ℕ → ℕ → Scenario → List Bytes → Said
lines_from m k n d [] = says d
lines_from m k n d (l ∷ ls) =
    let x = line m k n d (content l) in
    cond (is_some x.scenario.refused) x (x then lines_from m k (suc n) x.scenario ls)

-- a whole text
unfoldable pub described : ℕ → ℕ → Bytes → Said
described m k s = lines_from m k 1 start (lines s)

-- the answer, and the lent rooms: the bytes stand at their starts, and what lies beyond them is as lent
pub record Describes (x : Said) (slots answers : Bytes) (r : Scenario) (slots' answers' : Bytes) : Type 0 where
  pub scenario : r ≡ x.scenario
  pub slots_are : slots' ≡ put slots 0 x.slots
  pub answers_are : answers' ≡ put answers 0 x.answers

-- the same of one line, in rooms that hold what the lines before it said
pub record Took (x : Said) (d : Scenario) (slots answers : Bytes) (r : Scenario) (slots' answers' : Bytes) : Type 0 where
  pub scenario : r ≡ x.scenario
  pub slots_are : slots' ≡ put slots d.slots x.slots
  pub answers_are : answers' ≡ put answers d.answers x.answers

-- the answer and the lent rooms hold what a text says
abbrev pub Holds : Said → Lent → Lent → Scenario → Type 0
Holds x slots answers r = Describes x (was slots) (was answers) r (left slots) (left answers)

-- and what one line says, beside what the lines before it said
abbrev pub Takes : Said → Scenario → Lent → Lent → Scenario → Type 0
Takes x d slots answers r = Took x d (was slots) (was answers) r (left slots) (left answers)

-- the same of a line with a slot, and of one with an answer
abbrev pub TakesSlot : Said → Scenario → Lent → Scenario → Type 0
TakesSlot x d slots r = (r ≡ x.scenario) × (left slots ≡ put (was slots) d.slots x.slots)

abbrev pub TakesAnswer : Said → Scenario → Lent → Scenario → Type 0
TakesAnswer x d answers r = (r ≡ x.scenario) × (left answers ≡ put (was answers) d.answers x.answers)
