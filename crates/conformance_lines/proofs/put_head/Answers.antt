use Rattle.conformance_lines.specs.Lines.{head_text}
use Rattle.conformance_lines.proofs.put_head.Goals as goal

pub returns-in-Ok : goal.returns-in-Ok
unfolding head_text
returns-in-Ok c = rw c.in-Ok.is c.put_format.ensures

pub returns-in-Err : goal.returns-in-Err
unfolding head_text
returns-in-Err c = rw c.in-Err.is (rw c.number.ensures at c.put_refused.ensures)
