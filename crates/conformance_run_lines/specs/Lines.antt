-- The line of a run.
use Rattle.std.specs.Prelude.{ℕ, ◌+◌, ◌*◌, ◌/◌, [], ◌∷◌, ◌++◌, cond, eqb, length, get_or, take}
use Rattle.text.specs.Text.{Bytes, ascii, newline, least, hex}
use Rattle.text_pieces.specs.Pieces.{lines}
use Rattle.rules.specs.Slots.{slot_bytes, image_from, slot_at}
use Rattle.rules.specs.Step.{event_bytes}
use Rattle.pitvorgas_answers.specs.declared.RunAnswer.{RunAnswer}
use Rattle.conformance_format.specs.Format.{format, refused_text, bytes_text}

-- before item k of a list
unfoldable pub separator : ℕ → Bytes
separator k = cond (eqb k 0) [] (ascii ",")

-- slot k: identifier; capacity, the byte `present` and size; digest
unfoldable pub name_text : Bytes → ℕ → Bytes
name_text b k = separator k ++ bytes_text (slot_at b k).id

unfoldable pub image_text : Bytes → ℕ → Bytes
image_text b k =
    format (ascii ":%:%:%:") ((slot_at b k).capacity ∷ get_or b (slot_bytes * k + image_from) 0 ∷ (slot_at b k).size ∷ []) ++ hex (slot_at b k).digest

-- the first n slots
unfoldable pub slots_text : Bytes → ℕ → Bytes
slots_text b n = lines (λ k. name_text b k ++ image_text b k) n

-- where the events end in the trace
abbrev pub events_end : ℕ → Bytes → ℕ
events_end events trace = least (events * event_bytes) (length trace)

unfoldable pub events_text : ℕ → Bytes → Bytes
events_text events trace = ascii " " ++ bytes_text (take (events_end events trace) trace) ++ newline

unfoldable pub end_text : RunAnswer → Bytes → Bytes → Bytes
end_text a slots trace =
    format (ascii "end % % % % % ") (a.end ∷ a.place ∷ a.events ∷ a.used ∷ a.number ∷ []) ++ slots_text slots (length slots / slot_bytes)
    ++ events_text a.events trace

unfoldable pub ran_text : RunAnswer → Bytes → Bytes → Bytes
ran_text a slots trace = cond (eqb a.refusal 0) (end_text a slots trace) (refused_text a.refusal a.place)
