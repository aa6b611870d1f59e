use Rattle.conformance_cases.specs.Fields.{run_head}
use Rattle.rules.proofs.BytesLaws.{part-rest}
use mathlib.Core.Path.{sym}
use lib.Seq.{length-take-le}
use borrow.Author.Tests.{lt-ltb, le-ltb}
use Rattle.conformance_cases.specs.Cases.{run_case}
use Rattle.conformance_cases.proofs.run_case.Goals as goal

pub returns-then-b-lt-RUN_HEAD : goal.returns-then-b-lt-RUN_HEAD
unfolding run_case
returns-then-b-lt-RUN_HEAD c =
    rw (lt-ltb _ _ c.if-b-lt-RUN_HEAD.true) c.put_malformed.ensures

pub slice_bounds-run_slots-end : goal.slice_bounds-run_slots-end
slice_bounds-run_slots-end c =
    sym (length-take-le run_head c.args.b.now c.if-b-lt-RUN_HEAD.false)

pub run_slots-requires : goal.run_slots-requires
run_slots-requires c =
    length-take-le run_head c.args.b.now c.if-b-lt-RUN_HEAD.false

pub returns : goal.returns
unfolding run_case
returns c =
    rw (le-ltb _ _ c.if-b-lt-RUN_HEAD.false) (rw (part-rest c.args.b.now run_head) at c.run_slots.ensures)
