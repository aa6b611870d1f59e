use borrow.Author.Tests.{eq-eqb, ne_eqb}
use Rattle.rules.specs.ProgramFormat.{JUMP}
use Rattle.depot_record_lines.specs.Lines.{record_text}
use Rattle.text.proofs.TextLaws.{wrote_then}
use Rattle.depot_record_lines.proofs.put_record.Goals as goal

pub returns-then-wide-eq-JUMP : goal.returns-then-wide-eq-JUMP
unfolding record_text
returns-then-wide-eq-JUMP c =
    rw (← c.wide.ensures.0, eq-eqb c.wide.result JUMP c.if-wide-eq-JUMP.true, ← c.two.ensures.0)
    (wrote_then (wrote_then c.put_padded-a.ensures c.put-b.ensures) c.put_jump.ensures)

pub returns : goal.returns
unfolding record_text
returns c =
    rw (← c.wide.ensures.0, ne_eqb c.wide.result JUMP c.if-wide-eq-JUMP.false)
    (wrote_then (wrote_then c.put_padded-a.ensures c.put-b.ensures) c.put_command_record.ensures)
