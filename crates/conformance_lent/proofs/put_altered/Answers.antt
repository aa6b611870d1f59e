use Rattle.conformance_lent.specs.Lent.{altered_text}
use Rattle.text.proofs.TextLaws.{wrote_none}
use Rattle.conformance_lent.proofs.put_altered.Goals as goal

pub returns-then-kept : goal.returns-then-kept
unfolding altered_text
returns-then-kept c = rw c.if-kept.true (wrote_none _ _)

pub returns : goal.returns
unfolding altered_text
returns c =
    rw c.if-kept.false c.put.ensures
