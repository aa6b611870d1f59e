use Rattle.text.specs.Text.{Wrote}
use Rattle.text_pieces.specs.Pieces.{lines}
use Rattle.depot_report.specs.Report.{component_text}
use Rattle.depot_report.proofs.put_components.Given as goal

abbrev pub invariant-loop-k : goal.invariant-loop-k
invariant-loop-k l = Wrote (lines (component_text l.s l.ids) l.k) l.at l.initial.room l.to l.room
