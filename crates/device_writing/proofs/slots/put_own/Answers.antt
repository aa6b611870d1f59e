use mathlib.Core.Path.{◌≡◌}
use Rattle.rules.specs.Bytes.{four_at}
use Rattle.rules.specs.Slots.{capacity_from}
use Rattle.text.proofs.TextLaws.{wrote_then}
use Rattle.device_writing.specs.Device.{own_text}
use Rattle.device_writing.proofs.slots.put_own.Goals as goal

pub returns : goal.returns
unfolding own_text
returns c =
    let capacity : c.four.result ≡ four_at c.args.x.now capacity_from = c.four.ensures.0 in
    rw (← c.wide.ensures.0, ← c.least-n.ensures, ← capacity)
    (wrote_then (wrote_then c.put-a.ensures c.put_part-b.ensures) c.put_labelled.ensures)
