use Rattle.text.proofs.TextLaws.{wrote_then}
use Rattle.device_writing.specs.Device.{number_line}
use Rattle.device_writing.proofs.put_number.Goals as goal

pub returns : goal.returns
unfolding number_line
returns c =
    wrote_then c.put_labelled-a.ensures c.put_byte.ensures
