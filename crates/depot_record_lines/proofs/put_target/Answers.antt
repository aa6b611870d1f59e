use borrow.Author.Tests.{eq-eqb, ne_eqb}
use Rattle.rules.specs.ProgramFormat.{NONE}
use Rattle.depot_record_lines.specs.Lines.{target_text}
use Rattle.depot_record_lines.proofs.put_target.Goals as goal

pub returns-then-target-eq-NO_TARGET : goal.returns-then-target-eq-NO_TARGET
unfolding target_text
returns-then-target-eq-NO_TARGET c =
    rw (eq-eqb c.args.target NONE c.if-target-eq-NO_TARGET.true) c.put.ensures

pub returns-then-target-total : goal.returns-then-target-total
unfolding target_text
returns-then-target-total c =
    rw (ne_eqb c.args.target NONE c.if-target-eq-NO_TARGET.false, eq-eqb c.args.target c.args.total c.if-target-total.true) c.put-then-target-total.ensures

pub returns : goal.returns
unfolding target_text
returns c =
    rw (ne_eqb c.args.target NONE c.if-target-eq-NO_TARGET.false, ne_eqb c.args.target c.args.total c.if-target-total.false) c.put_labelled.ensures
