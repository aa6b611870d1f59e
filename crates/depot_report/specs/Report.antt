-- The answers of check, newer and translate, as text.
use Rattle.std.specs.Prelude.{ℕ, ◌+◌, ◌*◌, cond, List, [], ◌++◌, eqb, get_or}
use Rattle.rules.specs.Commands.{section_key}
use Rattle.rules.specs.Limits.{limits, section_count}
use Rattle.text.specs.Text.{Bytes, ascii, least}
use Rattle.text_names.specs.Words.{section_words}
use Rattle.text_pieces.specs.Pieces.{between, labelled, lines}
use Rattle.depot_identifiers.specs.Identifier.{identifier_text}
use Rattle.depot_refusals.specs.Refusals.{refused_text}
use Rattle.pitvorgas_answers.specs.declared.CheckAnswer.{CheckAnswer}
use Rattle.pitvorgas_answers.specs.declared.NewerAnswer.{NewerAnswer}

-- identifier k stands from ids at 2 k to before ids at 2 k + 1, and so for the sections
unfoldable pub component_text : Bytes → List ℕ → ℕ → Bytes
component_text s ids k = labelled (ascii "component ") k ++ ascii "  " ++ identifier_text (between s (get_or ids (2 * k) 0) (get_or ids (2 * k + 1) 0)) ++ ascii "\n"

unfoldable pub components_text : Bytes → List ℕ → ℕ → Bytes
components_text s ids n = lines (component_text s ids) (least n limits.components)

unfoldable pub span_text : ℕ → ℕ → Bytes
span_text from to = labelled (ascii " at ") from ++ labelled (ascii " to ") to ++ ascii "\n"

unfoldable pub section_text : List ℕ → ℕ → Bytes
section_text t j =
    cond (eqb (get_or t (2 * j + 1) 0) 0)
    []
    (ascii "section " ++ section_words (section_key j) ++ span_text (get_or t (2 * j) 0) (get_or t (2 * j + 1) 0))

unfoldable pub sections_text : List ℕ → Bytes
sections_text t = lines (section_text t) section_count

unfoldable pub manifest_text : ℕ → ℕ → Bytes
manifest_text from to = ascii "manifest" ++ span_text from to

unfoldable pub head_text : ℕ → Bytes
head_text number = labelled (ascii "accepted\nnumber ") number ++ ascii "\n"

unfoldable pub accepted_text : CheckAnswer → Bytes → Bytes
accepted_text a s =
    head_text a.number ++ components_text s a.ids a.components ++ sections_text a.sections ++ manifest_text a.from a.to

unfoldable pub checked_text : CheckAnswer → Bytes → Bytes
checked_text a s = cond (eqb a.refusal 0) (accepted_text a s) (refused_text a.refusal a.place s)

abbrev pub which_text : ℕ → Bytes
which_text second = cond (eqb second 0) (ascii "first") (ascii "second")

-- the manifest's number is that of the one handed back; where both are refused it is empty
unfoldable pub newer_text : NewerAnswer → ℕ → Bytes
newer_text a number =
    cond (eqb a.to 0)
    (ascii "both refused\n")
    (which_text a.second ++ labelled (ascii ": number ") number ++ ascii ", " ++ manifest_text a.from a.to)

unfoldable pub translated_text : ℕ → Bytes
translated_text length = labelled (ascii "program of ") length ++ ascii " bytes\n"
