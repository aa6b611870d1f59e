use mathlib.Core.List.{◌++◌, append-nil}
use Rattle.text.proofs.TextLaws.{wrote_then}
use Rattle.text_pieces.specs.Pieces.{labelled, counted}
use borrow.Author.Tests.{eq-eqb, ne_eqb}
use Rattle.text_pieces.proofs.put_counted.Goals as goal

pub returns-then-n-eq1 : goal.returns-then-n-eq1
unfolding counted
returns-then-n-eq1 c =
    rw (eq-eqb _ 1 c.if-n-eq1.true, append-nil (labelled c.args.label.now c.args.n ++ c.args.thing.now)) (wrote_then c.put_labelled-a.ensures c.put-b.ensures)

pub returns : goal.returns
unfolding counted
returns c =
    rw (ne_eqb _ 1 c.if-n-eq1.false) (wrote_then (wrote_then c.put_labelled-a.ensures c.put-b.ensures) c.put_byte.ensures)
