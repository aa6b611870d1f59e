-- The fields of a case.
use Rattle.std.specs.Prelude.{ℕ, ◌+◌, ◌-◌, ◌≤◌, ◌<◌, ◌≡◌, Bool, cond, not, eqb, ltb, length, get_or, Option, Some, None, IfSome}
use Rattle.rules.specs.Bytes.{Bytes, part, two_at, four_at}
use Rattle.rules.specs.Limits.{limits}
use Rattle.pitvorgas_answers.specs.declared.Device.{Device}

-- a byte as a truth value
abbrev pub is_set : Bytes → ℕ → Bool
is_set b at = not (eqb (get_or b at 0) 0)

-- the end of a string at the start of b: its length in two bytes and that many bytes; none where b has no such string
unfoldable pub string_end : Bytes → Option ℕ
string_end b = cond (ltb (length b) 2) None (cond (ltb (length b - 2) (two_at b 0)) None (Some (2 + two_at b 0)))

-- r is that end
pub record StringAt (b : Bytes) (r : Option ℕ) : Type 0 where
  pub end : r ≡ string_end b
  pub within : IfSome r (λ n. n ≤ length b)
  pub whole : IfSome r (λ n. 2 ≤ n)
  pub short : IfSome r (λ n. n < 65538)

-- the head of a run: group 1, verdict 1, vendor 16, class 16, sequence number 4, event open 1, the trace's length 2, its bytes' value 1
abbrev pub group_from : ℕ
group_from = 0

abbrev pub verdict_from : ℕ
verdict_from = 1

abbrev pub vendor_from : ℕ
vendor_from = 2

abbrev pub class_from : ℕ
class_from = 18

abbrev pub number_from : ℕ
number_from = 34

abbrev pub open_from : ℕ
open_from = 38

abbrev pub trace_from : ℕ
trace_from = 39

abbrev pub fill_from : ℕ
fill_from = 41

abbrev pub run_head : ℕ
run_head = 42

-- the device in it
unfoldable pub device_of : Bytes → Device
device_of head =
    record {
      vendor = part head vendor_from limits.class;
      class_id = part head class_from limits.class;
      number = four_at head number_from;
      event = is_set head open_from;
    }
