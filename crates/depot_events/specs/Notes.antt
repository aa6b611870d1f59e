-- What a note says of an event: nothing, or why an image match failed.
use Rattle.std.specs.Prelude.{ℕ, cond, eqb, Option, Some, None}
use Rattle.depot_events.specs.declared.notes.Note.{Note}
use Rattle.depot_events.specs.declared.notes.Note.TheVariants.{SlotAbsent, OtherDigest, OtherSize}

abbrev pub no_note : ℕ
no_note = 0

abbrev pub slot_absent : ℕ
slot_absent = 1

abbrev pub other_digest : ℕ
other_digest = 2

abbrev pub other_size : ℕ
other_size = 3

-- the byte of a note
abbrev pub note_number : Note → ℕ
note_number SlotAbsent = slot_absent
note_number OtherDigest = other_digest
note_number OtherSize = other_size

-- the byte of an event with a note or none
abbrev pub note_byte : Option Note → ℕ
note_byte (Some note) = note_number note
note_byte None = no_note

-- the note of a byte
abbrev pub note_of_byte : ℕ → Option Note
note_of_byte byte =
    cond (eqb byte slot_absent) (Some SlotAbsent) (cond (eqb byte other_digest) (Some OtherDigest) (cond (eqb byte other_size) (Some OtherSize) None))
