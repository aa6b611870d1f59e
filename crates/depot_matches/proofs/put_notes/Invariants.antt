use mathlib.Core.List.{[], ◌∷◌}
use Rattle.text.specs.Text.{Wrote}
use Rattle.text_pieces.specs.Pieces.{lines}
use Rattle.depot_events.specs.Notes.{note_byte}
use Rattle.depot_matches.specs.Matches.{note_of}
use Rattle.depot_matches.proofs.put_notes.Given as goal

abbrev pub invariant-loop-j : goal.invariant-loop-j
invariant-loop-j l = Wrote (lines (λ i. note_byte (note_of l.p l.trace l.slots l.answers i) ∷ []) l.j) 0 l.initial.notes l.to l.notes
