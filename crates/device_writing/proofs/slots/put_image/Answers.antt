use Prim.Native.Nat.{◌+◌}
use mathlib.Core.Path.{◌≡◌}
use Rattle.rules.specs.Bytes.{four_at}
use Rattle.rules.specs.Slots.{image_from, size_from}
use Rattle.text.proofs.TextLaws.{wrote_then}
use Rattle.device_writing.specs.Device.{image_text}
use Rattle.device_writing.proofs.slots.put_image.Goals as goal

pub returns : goal.returns
unfolding image_text
returns c =
    let size : c.four.result ≡ four_at c.args.x.now (image_from + size_from) = c.four.ensures.0 in
    rw (← size)
    (wrote_then (wrote_then (wrote_then (wrote_then c.put_state-a.ensures c.put_decimal-b.ensures) c.put_byte-c.ensures) c.put_part-d.ensures) c.put_byte.ensures)
