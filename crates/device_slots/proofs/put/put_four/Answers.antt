use Rattle.text.proofs.TextLaws.{wrote_then}
use Rattle.device_slots.proofs.put.put_four.Goals as goal

pub returns : goal.returns
returns c =
    rw (← c.low-4.ensures, ← c.low-3.ensures, ← c.low-2.ensures, ← c.low.ensures)
    (wrote_then (wrote_then (wrote_then c.put_byte-a.ensures c.put_byte-b.ensures) c.put_byte-c.ensures) c.put_byte.ensures)
