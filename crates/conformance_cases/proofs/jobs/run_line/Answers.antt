use mathlib.Core.Path.{sym}
use native.Mathlib.Omega.{arith}
use lib.ListN.{length}
use lib.Seq.{length-take-le}
use Rattle.conformance_cases.specs.Cases.{run_line}
use Rattle.conformance_cases.proofs.jobs.run_line.Goals as goal

pub slice_bounds-run_with-end : goal.slice_bounds-run_with-end
slice_bounds-run_with-end c =
    sym (length-take-le (length c.args.before.now) c.zeroed-slots.result (omega (arith, c.requires.1)))

pub slice_bounds-run_with-end-2 : goal.slice_bounds-run_with-end-2
slice_bounds-run_with-end-2 c =
    sym (length-take-le c.two-length.result c.zeroed-trace.result (omega (arith, c.two-length.ensures.1)))

pub run_with-requires : goal.run_with-requires
run_with-requires c =
    (c.requires.0, length-take-le (length c.args.before.now) c.zeroed-slots.result (omega (arith, c.requires.1)))

pub returns : goal.returns
unfolding run_line
returns c =
    rw (length-take-le c.two-length.result c.zeroed-trace.result (omega (arith, c.two-length.ensures.1)), c.two-length.ensures.0) at c.run_with.ensures
