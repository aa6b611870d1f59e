use borrow.Author.Tests.{eq-eqb, ne_eqb}
use Rattle.text.proofs.TextLaws.{wrote_none, wrote_then}
use Rattle.depot_show.specs.Manifest.{section_text}
use Rattle.depot_show.proofs.put_section.Goals as goal

pub returns-then-end-eq0 : goal.returns-then-end-eq0
unfolding section_text
returns-then-end-eq0 c = rw (eq-eqb _ _ c.if-end-eq0.true) (wrote_none _ _)

pub returns : goal.returns
unfolding section_text
returns c =
    rw (ne_eqb _ _ c.if-end-eq0.false) (wrote_then (wrote_then (wrote_then c.put_section-a.ensures c.put_code-b.ensures) c.put_byte-c.ensures) c.put_sequence-r.ensures.wrote)
