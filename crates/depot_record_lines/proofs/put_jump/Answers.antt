use borrow.Author.Tests.{eq-eqb, ne_eqb}
use Rattle.depot_record_lines.specs.Lines.{jump_text}
use Rattle.text.proofs.TextLaws.{wrote_then}
use Rattle.depot_record_lines.proofs.put_jump.Goals as goal

pub returns-then-target-total : goal.returns-then-target-total
unfolding jump_text
returns-then-target-total c =
    rw (eq-eqb c.args.target c.args.total c.if-target-total.true) c.put.ensures

pub returns : goal.returns
unfolding jump_text
returns c =
    rw (ne_eqb c.args.target c.args.total c.if-target-total.false) (wrote_then c.put_labelled-to.ensures c.put-2.ensures)
