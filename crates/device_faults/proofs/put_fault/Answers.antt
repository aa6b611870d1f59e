use mathlib.Core.Path.{◌≡◌}
use Rattle.text.proofs.TextLaws.{wrote_then}
use Rattle.device_text.specs.Words.{line_of}
use Rattle.device_faults.specs.Faults.{fault_text}
use Rattle.device_faults.proofs.put_fault.Goals as goal

pub returns : goal.returns
unfolding fault_text
returns c =
    let e : c.line_of.result.now ≡ line_of c.args.line c.args.text.now = c.line_of.ensures in
    rw (← e)
    (wrote_then (wrote_then (wrote_then c.put_labelled-a.ensures c.put-b.ensures) c.put_line_fault-c.ensures) c.put_byte.ensures)
