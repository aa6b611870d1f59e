-- What a run did, as text.
use Rattle.std.specs.Prelude.{ℕ, cond, ◌++◌, eqb}
use Rattle.rules.specs.Limits.{limits}
use Rattle.text.specs.Text.{Bytes, ascii, least}
use Rattle.text_names.specs.Words.{end_words}
use Rattle.text_pieces.specs.Pieces.{labelled, counted}
use Rattle.depot_refusals.specs.Refusals.{refused_text}
use Rattle.depot_events.specs.Events.{events_text}
use Rattle.depot_run_types.specs.declared.Subject.{Subject}
use Rattle.depot_slot_lines.specs.SlotLines.{slots_text}
use Rattle.depot_reasons.specs.Reasons.{reason_text}
use Rattle.pitvorgas_answers.specs.declared.RunAnswer.{RunAnswer}

unfoldable pub end_text : ℕ → ℕ → Bytes
end_text end place = labelled (ascii "end ") end ++ ascii " (" ++ end_words end ++ labelled (ascii ") at ") place

unfoldable pub counts_text : ℕ → ℕ → Bytes
counts_text events used = counted (ascii ", ") events (ascii " event") ++ counted (ascii ", ") used (ascii " answer")

unfoldable pub ran_text : RunAnswer → Bytes
ran_text a = end_text a.end a.place ++ counts_text a.events a.used ++ labelled (ascii " used, number ") a.number ++ ascii "\n"

-- a refusal, with the bytes that were run, and what it is about
unfoldable pub stopped_text : RunAnswer → Subject → Bytes → Bytes → Bytes
stopped_text a x s slots = refused_text a.refusal a.place s ++ reason_text a.refusal x a.number s slots

-- or the events, the end and the slots
unfoldable pub run_text : RunAnswer → Subject → Bytes → Bytes → Bytes → Bytes → Bytes
run_text a x s trace notes slots =
    cond (eqb a.refusal 0)
    (events_text trace notes a.events ++ ran_text a ++ slots_text slots s x.ids (least x.components limits.components))
    (stopped_text a x s slots)
