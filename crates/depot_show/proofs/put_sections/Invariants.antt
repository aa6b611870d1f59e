use Rattle.text.specs.Text.{Wrote}
use Rattle.text_pieces.specs.Pieces.{lines}
use Rattle.depot_show.specs.Manifest.{section_at}
use Rattle.depot_show.proofs.put_sections.Given as goal

-- The invariant: the sections passed were written.
abbrev pub invariant-loop-j : goal.invariant-loop-j
invariant-loop-j l = Wrote (lines (section_at l.s l.sections) l.j) l.at l.initial.room l.to l.room
