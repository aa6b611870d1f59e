use Rattle.text.proofs.TextLaws.{wrote_then}
use Rattle.device_writing.specs.Device.{device_text}
use Rattle.device_writing.proofs.put_device.Goals as goal

pub returns : goal.returns
unfolding device_text
returns c =
    wrote_then c.put_settings-a.ensures c.put_slots.ensures
