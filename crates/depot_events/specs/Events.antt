-- The events of a trace, as a table.
use Rattle.std.specs.Prelude.{ℕ, ◌+◌, ◌*◌, ◌/◌, [], ◌++◌, length, get_or, Option, Some, None}
use Rattle.rules.specs.Bytes.{two_at}
use Rattle.rules.specs.Step.{event_bytes, event_code, event_component, event_place, event_result}
use Rattle.text.specs.Text.{Bytes, ascii, padded, least}
use Rattle.text_rows.specs.Rows.{wide}
use Rattle.text_names.specs.Words.{command_words, result_words}
use Rattle.text_pieces.specs.Pieces.{lines}
use Rattle.depot_events.specs.declared.notes.Note.{Note}
use Rattle.depot_events.specs.declared.notes.Note.TheVariants.{SlotAbsent, OtherDigest, OtherSize}
use Rattle.depot_events.specs.Notes.{note_of_byte}

-- what a note adds to the result
abbrev pub note_words : Note → Bytes
note_words SlotAbsent = ascii ": slot absent"
note_words OtherDigest = ascii ": other digest"
note_words OtherSize = ascii ": other size"

abbrev pub note_text : Option Note → Bytes
note_text (Some note) = note_words note
note_text None = []

-- the component, the place and the result
unfoldable pub fields_text : ℕ → ℕ → ℕ → Option Note → Bytes
fields_text component place result note =
    padded 11 component ++ padded 7 place ++ padded 8 result ++ ascii "  " ++ result_words result ++ note_text note ++ ascii "\n"

-- the event of number k, with its byte of the notes
unfoldable pub event_text : Bytes → Bytes → ℕ → Bytes
event_text t notes k =
    padded 5 k ++ ascii "  " ++ wide 22 (command_words (get_or t (event_bytes * k + event_code) 0))
    ++ fields_text (get_or t (event_bytes * k + event_component) 0) (two_at t (event_bytes * k + event_place)) (get_or t (event_bytes * k + event_result) 0)
    (note_of_byte (get_or notes k 0))

-- as many events as are written, and lie in the trace
unfoldable pub events_text : Bytes → Bytes → ℕ → Bytes
events_text t notes n =
    ascii "event  command                 component  place  result\n" ++ lines (event_text t notes) (least n (length t / event_bytes))
