use mathlib.Core.Path.{sym}
use lib.Seq.{length-take-le}
use Rattle.device_text.specs.Words as Words
use Rattle.device_text.proofs.word.Goals as goal

pub slice_bounds-result-end : goal.slice_bounds-result-end
slice_bounds-result-end c = sym (length-take-le c.first_blank-n.result c.args.s.now c.first_blank-n.ensures.1)

pub returns : goal.returns
unfolding Words.word
returns c = rw c.first_blank-n.ensures.0
