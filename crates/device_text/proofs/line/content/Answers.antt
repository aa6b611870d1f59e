use mathlib.Core.Path.{sym, ◌∙◌}
use lib.Seq.{length-take-le}
use Rattle.device_text.specs.Words as Words
use Rattle.device_text.proofs.line.content.Goals as goal

pub slice_bounds-bare-end : goal.slice_bounds-bare-end
slice_bounds-bare-end c = sym (length-take-le _ _ c.position-n.ensures.1)

pub returns : goal.returns
unfolding Words.content
returns c = c.bare.ensures ∙ rw c.position-n.ensures.0
