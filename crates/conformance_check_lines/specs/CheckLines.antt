-- The lines of check.
use Rattle.std.specs.Prelude.{ℕ, ◌+◌, ◌*◌, [], ◌∷◌, ◌++◌, cond, eqb, get_or}
use Rattle.text.specs.Text.{Bytes, ascii, newline, least}
use Rattle.text_pieces.specs.Pieces.{lines}
use Rattle.rules.specs.Bytes.{span_at}
use Rattle.rules.specs.Limits.{limits}
use Rattle.pitvorgas_answers.specs.declared.CheckAnswer.{CheckAnswer}
use Rattle.conformance_format.specs.Format.{format, refused_text}

-- the places of component k, behind a space or a comma
unfoldable pub place_text : Bytes → ℕ → Bytes
place_text ids k = format (cond (eqb k 0) (ascii " %-%") (ascii ",%-%")) (get_or ids (2 * k) 0 ∷ get_or ids (2 * k + 1) 0 ∷ [])

-- of as many components as there may be
unfoldable pub places_text : Bytes → ℕ → Bytes
places_text ids components = lines (place_text ids) (least components limits.components)

-- 1 for a section that is there: it ends past 0
abbrev pub there : Bytes → ℕ → ℕ
there sections k = least (span_at sections k).to 1

-- sections 8 to 12, behind common's sequence
unfoldable pub sections_text : Bytes → Bytes
sections_text s = format (ascii " %%%%%" ++ newline) (there s 1 ∷ there s 2 ∷ there s 3 ∷ there s 4 ∷ there s 5 ∷ [])

unfoldable pub accepted_text : ℕ → ℕ → Bytes → Bytes → Bytes
accepted_text number components ids sections = format (ascii "accepted %") (number ∷ []) ++ places_text ids components ++ sections_text sections

unfoldable pub checked_text : CheckAnswer → Bytes
checked_text a =
    cond (eqb a.refusal 0) (accepted_text a.number a.components a.ids a.sections) (refused_text a.refusal a.place)
