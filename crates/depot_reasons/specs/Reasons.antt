-- What a refusal of a run is about, on a line below it.
use Rattle.std.specs.Prelude.{ℕ, ◌/◌, Bool, cond, List, [], ◌++◌, eqb, length, None, Some}
use Rattle.rules.specs.declared.answers.Refusal.TheVariants.{WrongNumber, NoSlot, BadSlots}
use Rattle.rules.specs.Answers.{refusal_number}
use Rattle.rules.specs.Bytes.{bytes_at, span_at}
use Rattle.rules.specs.Limits.{limits}
use Rattle.rules.specs.Slots.{slot_bytes, slot_of}
use Rattle.text.specs.Text.{Bytes, ascii, least}
use Rattle.text_pieces.specs.Pieces.{labelled}
use Rattle.depot_identifiers.specs.Identifier.{identifier_text}
use Rattle.depot_run_types.specs.declared.Subject.{Subject}
use Rattle.depot_reasons.specs.First.{first}
use Rattle.depot_reasons.specs.BadSlots.{bad_slots_text}

abbrev pub group_text : Bool → Bytes
group_text boot = cond boot (ascii "  boot") (ascii "  install")

-- 82
unfoldable pub numbers_text : Bool → ℕ → ℕ → Bytes
numbers_text boot number device =
    group_text boot ++ labelled (ascii ": the manifest's number is ") number ++ labelled (ascii ", the device's ") device ++ ascii "\n"

-- 83: component k, whose identifier stands at a place of s, is not found among the slots
unfoldable pub has_no_slot : Bytes → List ℕ → Bytes → ℕ → Bool
has_no_slot s ids slots k = eqb (slot_of (bytes_at s (span_at ids k)) slots) (length slots / slot_bytes)

unfoldable pub without_text : Bytes → List ℕ → ℕ → Bytes
without_text s ids k = labelled (ascii "  component ") k ++ ascii " has no slot: " ++ identifier_text (bytes_at s (span_at ids k)) ++ ascii "\n"

-- the first of n
unfoldable pub no_slot_text : Bytes → List ℕ → ℕ → Bytes → Bytes
no_slot_text s ids n slots =
    elim (first (has_no_slot s ids slots) n 0) [ None ↦ [] | Some k ↦ without_text s ids k ]

-- nothing, where the number says it all
unfoldable pub reason_text : ℕ → Subject → ℕ → Bytes → Bytes → Bytes
reason_text refusal x device s slots =
    cond (eqb refusal (refusal_number WrongNumber)) (numbers_text x.boot x.number device)
    (cond (eqb refusal (refusal_number NoSlot)) (no_slot_text s x.ids (least x.components limits.components) slots)
    (cond (eqb refusal (refusal_number BadSlots)) (bad_slots_text slots)
    []))
