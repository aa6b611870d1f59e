use Rattle.text.proofs.TextLaws.{wrote_then}
use Rattle.conformance_lent.specs.Lent.{translation_line}
use Rattle.conformance_lent.proofs.put_translation.Goals as goal

pub returns : goal.returns
unfolding translation_line
returns c =
    wrote_then c.put_translated-a.ensures (rw (c.all_are-kept.ensures, c.least-end.ensures) at c.put_altered.ensures)
