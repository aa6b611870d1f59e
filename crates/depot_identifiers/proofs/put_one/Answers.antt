use mathlib.Core.List.{append-nil}
use borrow.Author.Tests.{eq-eqb, ne_eqb}
use Rattle.depot_identifiers.specs.Identifier.{part_text, value_text}
use Rattle.text.proofs.TextLaws.{wrote_then}
use Rattle.depot_identifiers.proofs.put_one.Goals as goal

pub returns-then-left-eq0 : goal.returns-then-left-eq0
unfolding part_text
returns-then-left-eq0 c =
    rw (eq-eqb _ _ c.if-left-eq0.true, append-nil (value_text c.args.part.now)) c.put_value-to.ensures

pub returns : goal.returns
unfolding part_text
returns c =
    rw (ne_eqb _ _ c.if-left-eq0.false) (wrote_then c.put_value-to.ensures c.put.ensures)
