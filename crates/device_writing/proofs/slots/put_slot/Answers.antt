use Rattle.text.proofs.TextLaws.{wrote_then}
use Rattle.device_writing.specs.Device.{slot_line}
use Rattle.device_writing.proofs.slots.put_slot.Goals as goal

pub returns : goal.returns
unfolding slot_line
returns c =
    wrote_then c.put_own-a.ensures c.put_image.ensures
