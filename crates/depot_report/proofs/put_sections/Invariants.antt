use Rattle.text.specs.Text.{Wrote}
use Rattle.text_pieces.specs.Pieces.{lines}
use Rattle.depot_report.specs.Report.{section_text}
use Rattle.depot_report.proofs.put_sections.Given as goal

abbrev pub invariant-loop-j : goal.invariant-loop-j
invariant-loop-j l = Wrote (lines (section_text l.sections) l.j) l.at l.initial.room l.to l.room
