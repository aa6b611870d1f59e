use Rattle.rules.proofs.BytesLaws.{part-rest}
use borrow.Author.Tests.{lt-ltb, le-ltb}
use Rattle.conformance_cases.specs.Cases.{translate_case}
use Rattle.conformance_cases.proofs.translate_case.Goals as goal

pub returns-then-b-lt-TRANSLATE_HEAD : goal.returns-then-b-lt-TRANSLATE_HEAD
unfolding translate_case
returns-then-b-lt-TRANSLATE_HEAD c =
    rw (lt-ltb _ _ c.if-b-lt-TRANSLATE_HEAD.true) c.put_malformed.ensures

pub returns : goal.returns
unfolding translate_case
returns c =
    rw (le-ltb _ _ c.if-b-lt-TRANSLATE_HEAD.false) (rw (c.two.ensures.0, part-rest c.args.b.now 3) at c.translate_line.ensures)
