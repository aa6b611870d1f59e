use borrow.Author.Rules.{rules}
use borrow.Author.Tests.{ne_eqb}
use mathlib.Core.Logic.{inl, inr}
use Rattle.text.proofs.TextLaws.{wrote_none, wrote_then}
use Rattle.depot_items.specs.Line.{argument_text}
use Rattle.depot_items.proofs.line.put_argument.Goals as goal

pub returns-in-22 : goal.returns-in-22
unfolding argument_text
returns-in-22 c = elim c.in-22.is [ inl q ↦ rw q (wrote_none _ _) | inr q ↦ rw q (wrote_none _ _) ]

pub returns-in-4 : goal.returns-in-4
unfolding argument_text
returns-in-4 c = rw c.in-4.is c.put_counted.ensures

pub returns-in_default : goal.returns-in_default
unfolding argument_text
returns-in_default c =
    rw (ne_eqb c.args.i.kind 22 (search rules), ne_eqb c.args.i.kind 5 (search rules), ne_eqb c.args.i.kind 4 (search rules))
    (wrote_then c.put-a.ensures c.put_item.ensures)
