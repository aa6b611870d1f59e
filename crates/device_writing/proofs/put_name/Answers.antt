use Rattle.text.proofs.TextLaws.{wrote_then}
use Rattle.device_writing.specs.Device.{name_line}
use Rattle.device_writing.proofs.put_name.Goals as goal

pub returns : goal.returns
unfolding name_line
returns c =
    wrote_then (wrote_then c.put-a.ensures c.put_hex-b.ensures) c.put_byte.ensures
