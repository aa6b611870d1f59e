use mathlib.Core.Path.{sym, ◌∙◌}
use lib.Seq.{length-take-le}
use Rattle.device_text.proofs.line.line_at.Goals as goal

pub slice_bounds-content-end : goal.slice_bounds-content-end
slice_bounds-content-end c = sym (length-take-le _ _ c.position-n.ensures.1)

pub returns : goal.returns
returns c = c.content.ensures ∙ rw (c.position-n.ensures.0, c.behind-t.ensures)
