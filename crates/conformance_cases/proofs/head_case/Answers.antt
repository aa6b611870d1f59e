use Rattle.rules.proofs.BytesLaws.{part-rest}
use borrow.Author.Tests.{lt-ltb, le-ltb}
use Rattle.conformance_cases.specs.Cases.{head_case}
use Rattle.conformance_cases.proofs.head_case.Goals as goal

pub returns-then-b-lt-PLACE_BYTES : goal.returns-then-b-lt-PLACE_BYTES
unfolding head_case
returns-then-b-lt-PLACE_BYTES c =
    rw (lt-ltb _ _ c.if-b-lt-PLACE_BYTES.true) c.put_malformed.ensures

pub returns : goal.returns
unfolding head_case
returns c =
    rw (le-ltb _ _ c.if-b-lt-PLACE_BYTES.false) (rw (c.two.ensures.0, part-rest c.args.b.now 2) at c.head_line.ensures)
