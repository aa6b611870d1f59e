-- The line of a case, by the rules. Any other bytes are no case.
--
-- A case:  1 check:          the envelope
--          2 newer:          string first; the second envelope
--          3 translate:      group, 0 for install; the room's length (2); the envelope
--          4 run:            head (42); string slots; string answers; the envelope
--          5 run a program:  the same, and the program
--          6 head:           place (2); the envelope
-- A string is its length in 2 bytes and that many bytes. Fields has the layout of a run's head.
use Rattle.std.specs.Prelude.{ℕ, ◌-◌, ◌++◌, Bool, true, false, cond, eqb, ltb, length, get_or, take, drop, replicate, Option, Some, None, Result, Ok, Err}
use Rattle.text.specs.Text.{ascii, newline}
use Rattle.rules.specs.Bytes.{Bytes, two_at}
use Rattle.rules.specs.Got.{Got}
use Rattle.rules.specs.Cbor as Cbor
use Rattle.rules.specs.Check as Check
use Rattle.rules.specs.Newer as Newer
use Rattle.rules.specs.Run.{Ran, run_envelope}
use Rattle.rules.specs.Program as Program
use Rattle.rules.specs.ProgramRun.{run_program}
use Rattle.rules.specs.declared.answers.Fault.{Fault}
use Rattle.cbor_heads.specs.declared.Head.{Head}
use Rattle.cbor_reader.specs.Read.{read_of}
use Rattle.run_ending.specs.Answer.{input_of, slots_after, trace_after}
use Rattle.pitvorgas_answers.specs.Inputs.{controller_of, group_of}
use Rattle.pitvorgas.specs.Answers.{checked_of, newer_of, translated_of, room_after, ran_of}
use Rattle.conformance_cases.specs.Fields.{group_from, verdict_from, trace_from, fill_from, run_head, is_set, string_end, device_of}
use Rattle.conformance_check_lines.specs.CheckLines.{checked_text}
use Rattle.conformance_lines.specs.Lines.{newer_text, head_text}
use Rattle.conformance_lent.specs.Lent.{room_fill, translation_line, ran_line}

unfoldable pub malformed_text : Bytes
malformed_text = ascii "malformed" ++ newline

unfoldable pub check_line : Bytes → Bytes
check_line s = checked_text (checked_of (Check.check s))

unfoldable pub newer_line : Bytes → Bytes → Bytes
newer_line s t = newer_text (newer_of (Newer.newer s t))

-- a translation into a room of n bytes
unfoldable pub translate_line : Bytes → Bool → ℕ → Bytes
translate_line s boot n =
    translation_line (translated_of (Program.translate s (group_of boot) n)) (room_after (replicate n room_fill) (Program.translate s (group_of boot) n))

-- the run of a program, or of an envelope
unfoldable pub ran_by : Bool → Bytes → Bytes → Bytes → Bytes → Bytes → Got Ran
ran_by true head s slots answers trace = run_program s (input_of (is_set head verdict_from) (controller_of (device_of head)) slots answers trace)
ran_by false head s slots answers trace =
    run_envelope s (group_of (is_set head group_from)) (input_of (is_set head verdict_from) (controller_of (device_of head)) slots answers trace)

abbrev pub ran_with : Bytes → Bytes → Bytes → Got Ran → Bytes
ran_with head slots trace g =
    ran_line (ran_of (controller_of (device_of head)) g) slots (slots_after slots g) (get_or head fill_from 0) (trace_after trace g)

-- a run with a trace of n bytes, filled with the head's value
abbrev pub run_filled : Bool → Bytes → Bytes → Bytes → Bytes → ℕ → Bytes
run_filled program head slots answers s n =
    let trace = replicate n (get_or head fill_from 0) in ran_with head slots trace (ran_by program head s slots answers trace)

unfoldable pub run_line : Bool → Bytes → Bytes → Bytes → Bytes → Bytes
run_line program head slots answers s = run_filled program head slots answers s (two_at head trace_from)

-- a head that was read, and what of s is left after it; of a refused head, from its place
abbrev pub head_read : Bytes → Result Head Fault → Bytes
head_read s (Ok h) = head_text (Ok h) (length s - h.next)
head_read s (Err f) = head_text (Err f) (length s - f.at)

unfoldable pub head_line : Bytes → ℕ → Bytes
head_line s place = head_read s (read_of (Cbor.head s (length s) place))

-- what a job says of the string at the start of b, which ends there, and of the bytes behind it
abbrev pub if_string : Bytes → (Bytes → Bytes → Bytes) → Option ℕ → Bytes
if_string b line None = malformed_text
if_string b line (Some end) = line (take (end - 2) (drop 2 b)) (drop end b)

unfoldable pub newer_case : Bytes → Bytes
newer_case b = if_string b newer_line (string_end b)

unfoldable pub translate_case : Bytes → Bytes
translate_case b = cond (ltb (length b) 3) malformed_text (translate_line (drop 3 b) (is_set b 0) (two_at b 1))

-- b and c start with the strings
unfoldable pub run_answers : Bool → Bytes → Bytes → Bytes → Bytes
run_answers program head slots c = if_string c (run_line program head slots) (string_end c)

unfoldable pub run_slots : Bool → Bytes → Bytes → Bytes
run_slots program head b = if_string b (run_answers program head) (string_end b)

unfoldable pub run_case : Bool → Bytes → Bytes
run_case program b = cond (ltb (length b) run_head) malformed_text (run_slots program (take run_head b) (drop run_head b))

unfoldable pub head_case : Bytes → Bytes
head_case b = cond (ltb (length b) 2) malformed_text (head_line (drop 2 b) (two_at b 0))

unfoldable pub job_line : ℕ → Bytes → Bytes
job_line job b =
    cond (eqb job 1) (check_line b)
    (cond (eqb job 2) (newer_case b)
    (cond (eqb job 3) (translate_case b)
    (cond (eqb job 4) (run_case false b) (cond (eqb job 5) (run_case true b) (cond (eqb job 6) (head_case b) malformed_text)))))

unfoldable pub line_of : Bytes → Bytes
line_of c = cond (eqb (length c) 0) malformed_text (job_line (get_or c 0 0) (drop 1 c))
