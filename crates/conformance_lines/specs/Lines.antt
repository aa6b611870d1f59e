-- The lines of newer, translate and a head.
use Rattle.std.specs.Prelude.{ℕ, [], ◌∷◌, ◌++◌, cond, eqb, length, take, Result, Ok, Err}
use Rattle.text.specs.Text.{Bytes, ascii, newline, least}
use Rattle.rules.specs.declared.answers.Fault.{Fault}
use Rattle.rules.specs.Answers.{refusal_number}
use Rattle.cbor_heads.specs.declared.Head.{Head}
use Rattle.pitvorgas_answers.specs.declared.NewerAnswer.{NewerAnswer}
use Rattle.pitvorgas_answers.specs.declared.TranslateAnswer.{TranslateAnswer}
use Rattle.conformance_format.specs.Format.{format, refused_text, bytes_text}

unfoldable pub newer_text : NewerAnswer → Bytes
newer_text a = format (ascii "(%, %, %)" ++ newline) (a.second ∷ a.from ∷ a.to ∷ [])

unfoldable pub program_text : Bytes → Bytes
program_text b = ascii "program " ++ bytes_text b ++ newline

-- where the program ends in its room
abbrev pub program_end : TranslateAnswer → Bytes → ℕ
program_end a room = least a.length (length room)

unfoldable pub translated_text : TranslateAnswer → Bytes → Bytes
translated_text a room =
    cond (eqb a.refusal 0) (program_text (take (program_end a room) room)) (refused_text a.refusal a.place)

-- a head, and how many bytes are left after it
unfoldable pub head_text : Result Head Fault → ℕ → Bytes
head_text (Ok h) left = format (ascii "head % % % %" ++ newline) (h.kind ∷ h.num ∷ h.next ∷ left ∷ [])
head_text (Err f) left = refused_text (refusal_number f.refusal) f.at
