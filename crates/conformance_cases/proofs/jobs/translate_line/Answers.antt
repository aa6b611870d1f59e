use mathlib.Core.Path.{sym}
use native.Mathlib.Omega.{arith}
use lib.Seq.{length-take-le}
use Rattle.conformance_cases.proofs.jobs.translate_line.Goals as goal

pub slice_bounds-translate_into-end : goal.slice_bounds-translate_into-end
slice_bounds-translate_into-end c =
    sym (length-take-le c.args.n c.zeroed-lent.result (omega arith))

pub returns : goal.returns
returns c =
    rw (length-take-le c.args.n c.zeroed-lent.result (omega arith)) at c.translate_into.ensures
