-- What a job must keep of the bytes that it was lent. Compiled code is what runs, so it is looked at.
use Rattle.std.specs.Prelude.{ℕ, [], ◌∷◌, ◌++◌, Bool, true, ◌&&◌, ◌||◌, cond, eqb, drop}
use Rattle.text.specs.Text.{ascii, newline}
use Rattle.rules.specs.Bytes.{Bytes, same}
use Rattle.pitvorgas_answers.specs.declared.TranslateAnswer.{TranslateAnswer}
use Rattle.pitvorgas_answers.specs.declared.RunAnswer.{RunAnswer}
use Rattle.conformance_lines.specs.Lines.{program_end, translated_text}
use Rattle.conformance_run_lines.specs.Lines.{events_end, ran_text}

-- every byte is x
abbrev pub all_are : ℕ → Bytes → Bool
all_are x [] = true
all_are x (y ∷ b) = eqb y x && all_are x b

-- a second line, where lent bytes were not kept
unfoldable pub altered_text : Bool → Bytes
altered_text kept = cond kept [] (ascii "altered" ++ newline)

-- what a room is filled with
abbrev pub room_fill : ℕ
room_fill = 160

-- a translation keeps the room beyond the program, and a refusal all of it
unfoldable pub translation_line : TranslateAnswer → Bytes → Bytes
translation_line a room = translated_text a room ++ altered_text (all_are room_fill (drop (program_end a room) room))

-- a run keeps the trace beyond its events, and a refusal all of trace and slots
unfoldable pub kept_all : RunAnswer → Bytes → Bytes → ℕ → Bytes → Bool
kept_all a before slots fill trace =
    all_are fill (drop (events_end a.events trace) trace) && (eqb a.refusal 0 || same before slots)

-- a run of slots that were `before`, with a trace that was filled with x
unfoldable pub ran_line : RunAnswer → Bytes → Bytes → ℕ → Bytes → Bytes
ran_line a before slots x trace = ran_text a slots trace ++ altered_text (kept_all a before slots x trace)
