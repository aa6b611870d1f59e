-- Why an image match failed, as a note of one byte for each event.
use Rattle.std.specs.Prelude.{ℕ, ◌/◌, cond, [], ◌∷◌, Option, Some, None, ltb, length, drop}
use Rattle.rules.specs.declared.answers.End.TheVariants.{ConditionFailed}
use Rattle.rules.specs.Answers.{result_number}
use Rattle.rules.specs.Bytes.{Bytes, same}
use Rattle.rules.specs.Commands.{image_match_code, digest_key}
use Rattle.rules.specs.Slots.{answer_bytes, digest_from}
use Rattle.rules.specs.Step.{event_bytes}
use Rattle.text.specs.Text.{least}
use Rattle.text_pieces.specs.Pieces.{lines}
use Rattle.depot_events.specs.declared.notes.Note.{Note}
use Rattle.depot_events.specs.declared.notes.Note.TheVariants.{SlotAbsent, OtherDigest, OtherSize}
use Rattle.depot_events.specs.Notes.{note_byte}
use Rattle.depot_matches.specs.declared.images.ImageOrigin.{ImageOrigin}
use Rattle.depot_matches.specs.declared.images.ImageOrigin.TheVariants.{Slot, Answer}
use Rattle.depot_matches.specs.Events.{event_at, is_of}
use Rattle.depot_matches.specs.Values.{value_before}
use Rattle.depot_matches.specs.Images.{origin, lent_image, answer_image}

-- why the image did not match, where no image is one that is absent
unfoldable pub note_of_image : Bytes → Bytes → Note
note_of_image image digest = cond (ltb (length image) answer_bytes) SlotAbsent (cond (same (drop digest_from image) digest) OtherSize OtherDigest)

-- the image that was there
unfoldable pub image_from : Bytes → Bytes → Bytes → ImageOrigin → Bytes
image_from p slots answers (Slot c) = lent_image p slots c
image_from p slots answers (Answer k) = answer_image answers k

-- the note of event j: the program, the trace, the slots before the run, the host's answers
unfoldable pub note_of : Bytes → Bytes → Bytes → Bytes → ℕ → Option Note
note_of p t slots answers j =
    cond (is_of image_match_code (result_number ConditionFailed) (event_at t j))
    (Some (note_of_image (image_from p slots answers (origin p t (event_at t j).component j)) (value_before p t digest_key (event_at t j).component j)))
    None

-- the bytes of the notes of the first events, as many of them as lie in the trace
unfoldable pub notes_of : Bytes → Bytes → ℕ → Bytes → Bytes → Bytes
notes_of p t events slots answers = lines (λ j. note_byte (note_of p t slots answers j) ∷ []) (least events (length t / event_bytes))
